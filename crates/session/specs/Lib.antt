-- Rules 7.5 and 7.9: what a step line does to the records.
pub mod Session
