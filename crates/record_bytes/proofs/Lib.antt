-- What a buffer of 680 bytes holds, and a word in bytes.
pub mod Held
pub mod LowFirst
