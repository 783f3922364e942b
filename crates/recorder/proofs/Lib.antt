-- Laws of the recorder.
mod Walked
pub mod Tables
