-- What the standby's step returns.
pub mod Parts
