-- Laws of the quorum tests, for the crates above.
pub mod Quorums
