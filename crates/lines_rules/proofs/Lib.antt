-- Laws of message lines: their parts, the round trips, the greatest length.
pub mod Lines
pub mod RoundTrip
pub mod Bounds
