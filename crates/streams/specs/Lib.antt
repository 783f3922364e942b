-- What a program reads and writes: rule 7.12.
pub mod Streams
pub mod Parts
