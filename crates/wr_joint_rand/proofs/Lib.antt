-- What the proofs of the functions cite: `Blocks` of tests taken some at a time, `Seeds` of the stream that a seed makes.
pub mod Blocks
pub mod Seeds
