-- Runs of a rack and the customer's demand 3.
pub mod Clocks
pub mod Runs
pub mod Claims
pub mod Freedoms
pub mod Found
