-- What the proofs of the functions cite: `Drawn`. `Sense` says what the definitions mean, `Examples` has worked rows.
mod Drawn
mod Sense
mod Examples
