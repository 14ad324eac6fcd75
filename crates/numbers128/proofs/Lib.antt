-- What the proofs of the functions cite: `Places` of an element at its place.
pub mod Places
