-- `Keccak` has the definitions; `Halves` a round in two halves.
pub mod Keccak
pub mod Halves
