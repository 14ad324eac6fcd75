-- What the proofs of the functions cite: `TestTurns` of what is left of the tests at each turn.
pub mod TestTurns
