-- What the proofs of the functions cite: `Usable` of the gradient's coordinates, `Written` of rows that are written in parts.
pub mod Usable
pub mod Elements
pub mod Written
