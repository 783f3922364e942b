-- Determinacy: what it says, and the claim for each crate whose public functions are judged.
pub mod Settled
pub mod OfSettings
pub mod OfFields
pub mod OfLines
pub mod OfRecorder
pub mod OfObserver
pub mod OfLent
pub mod OfStandby
pub mod OfFiles
pub mod OfFirmware
