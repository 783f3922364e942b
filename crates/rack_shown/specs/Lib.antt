-- Single runs of a rack: those that meet the premises of demand 3, and those that refute a shortcut.
pub mod Tables
pub mod Shown
pub mod Shortcuts
pub mod Freedoms
pub mod Needed
