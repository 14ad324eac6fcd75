-- What the proofs of the functions cite: `Straight` of the sums byte by byte.
mod Straight
