-- What the readers of step lines rest on.
pub mod Rows
pub mod Lengths
