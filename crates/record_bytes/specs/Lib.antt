-- Rule 8.1, for a buffer of any length.
pub mod Held
