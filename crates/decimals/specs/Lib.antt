-- Rule 6.1: decimals.
pub mod Decimals
