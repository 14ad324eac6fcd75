-- What the proofs of the functions cite: `Lines`. `Sense` says how long a text can be, `Examples` has worked rows.
pub mod Lines
pub mod Sense
mod Examples
