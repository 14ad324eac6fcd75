-- What the proofs of the functions cite: `Spreading` of a row whose words become elements.
mod Spreading
