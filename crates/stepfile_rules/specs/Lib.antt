-- Rules 7: what is written is a function of the input.
pub mod Lines
pub mod Files
pub mod Claims
pub mod Parts
