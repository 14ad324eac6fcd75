-- What the proofs of the functions cite: `Places` of place values.
pub mod Places
