-- Laws of lines and of the answers to them.
pub mod Lines
pub mod Steps
pub mod Files
pub mod Claims
