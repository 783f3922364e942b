-- What all claims of determinacy rest on.
pub mod Apart
