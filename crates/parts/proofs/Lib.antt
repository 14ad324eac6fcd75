-- What the proofs of the functions cite: `Vectors` of the rules and `Cuts` of the parts by the record, which those of the circuits cite too, `Places` of where the parts lie. `Examples`: worked examples.
pub mod Vectors
pub mod Cuts
mod Places
mod Examples
