-- The laws of refusals.
pub mod Apart
pub mod Results
pub mod Tables
