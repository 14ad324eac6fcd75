-- What the proofs of the functions cite: `Sides` of what a tile adds to the results.
mod Sides
