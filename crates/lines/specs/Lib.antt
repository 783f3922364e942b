-- What only the code's own readers need.
pub mod Parts
