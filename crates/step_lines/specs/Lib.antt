-- Rules 7.2 to 7.4: the forms of the lines.
pub mod Rows
pub mod Reading
