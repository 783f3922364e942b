-- What every accepted step makes of the record before its event, and its parts.
pub mod Advanced
pub mod Parts
