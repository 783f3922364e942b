-- Rules 6: message lines.
pub mod Reading
pub mod Writing
pub mod Claims
