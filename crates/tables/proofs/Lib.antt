-- What the proofs of the functions cite: `Tables` of a group's tables.
pub mod Tables
