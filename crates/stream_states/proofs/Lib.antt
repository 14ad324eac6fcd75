-- What the proofs of the functions cite: `States` of the states and what they draw.
pub mod States
