-- Laws of words and bytes.
pub mod Words
pub mod Calls
pub mod RoundTrip
