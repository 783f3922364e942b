-- Laws of the settings: Laws is for the crates above.
pub mod Laws
mod Signed
