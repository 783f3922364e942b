-- Laws of the answers' lines, for the crates above.
pub mod Lines
pub mod OneLine
mod Values
mod Behind
