-- Messages and answers, in the words and numbers of the rules.
pub mod Messages
pub mod Answers
pub mod Outcomes
