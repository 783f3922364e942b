-- The plan of a step, and its parts.
pub mod Plan
pub mod Parts
