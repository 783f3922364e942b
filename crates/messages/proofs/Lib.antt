-- Laws of the answers and of what a refused step leaves, for the crates above.
pub mod Apart
pub mod Outcomes
