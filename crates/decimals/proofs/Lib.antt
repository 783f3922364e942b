-- Laws of digits and of reading, for the crates above.
pub mod Digits
pub mod Reading
