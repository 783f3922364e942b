-- Laws of the observer, for the crates above.
pub mod Laws
pub mod Ways
pub mod Answers
