-- Rules 1.1 to 1.8: settings.
pub mod Settings
pub mod Answers
pub mod Parts
