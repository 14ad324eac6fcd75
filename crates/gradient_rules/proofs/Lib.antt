-- What the proofs of the functions cite: `Searches` of the loops.
pub mod Searches
