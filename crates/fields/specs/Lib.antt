-- Rule 6.4: words and the places of bytes.
pub mod Places
