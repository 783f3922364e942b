-- The parts of the recorder's step.
pub mod Parts
