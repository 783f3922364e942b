-- Rules 3: the recorder.
pub mod Recorder
pub mod Claims
