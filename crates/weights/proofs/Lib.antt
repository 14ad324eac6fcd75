-- What the proofs of the functions cite: `Weights` of a test's weights.
pub mod Weights
