-- Laws of the standby, for the crates above.
pub mod Refusals
pub mod Forms
pub mod Verdicts
pub mod Ways
pub mod Rounds
pub mod Answers
