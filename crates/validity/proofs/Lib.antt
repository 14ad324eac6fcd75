-- What the proofs of the functions cite: `Verdicts` of the rules, `Fit` of the derived record, `Cut` of the circuits on the parts of a vector.
pub mod Verdicts
pub mod Fit
pub mod Cut
