-- What the proofs of the functions cite: `Norm` of the squared norm and of the parts of a gradient, `Added` of results that tests are added to.
pub mod Norm
pub mod Added
