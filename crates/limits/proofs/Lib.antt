-- The table of limits, row by row.
pub mod Starred
