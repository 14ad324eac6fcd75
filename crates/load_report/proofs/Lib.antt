-- What the proofs of the functions cite: `Reported`. `Examples` has worked rows.
mod Reported
mod Examples
