-- Laws of the recorder.
pub mod Formed
pub mod Spacing
pub mod Room
pub mod Ways
pub mod Grants
pub mod Placing
pub mod Lacking
pub mod Staying
pub mod Keeping
pub mod Steps
pub mod Places
pub mod Answers
