-- Rules 8: the bytes of a record, and the C calls over them.
pub mod Bytes
pub mod Calls
pub mod Claims
