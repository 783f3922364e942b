-- Lemmas of the standby's step.
pub mod Greatest
pub mod Tables
