-- Rules 7.6 and 7.7: the lines of answers.
pub mod Answers
pub mod Parts
