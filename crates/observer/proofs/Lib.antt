-- What the steps share, and what the lent step cites.
mod Tables
pub mod Doing
pub mod Stored
