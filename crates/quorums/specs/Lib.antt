-- Rule 1.9: quorums.
pub mod Quorums
pub mod Parts
