-- Laws of a session.
pub mod Spoken
