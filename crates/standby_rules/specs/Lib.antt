-- Rules 5: the standby.
pub mod Standby
pub mod Claims
