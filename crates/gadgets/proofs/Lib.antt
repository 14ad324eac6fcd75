-- What the proofs of the functions cite, of the loops: `Chunks` of chunks and running sums, `PowerRows` of rows of powers, `Turns` of what is left at each turn.
pub mod Chunks
pub mod PowerRows
pub mod Turns
