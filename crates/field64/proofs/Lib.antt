-- The laws of arithmetic modulo any number (`Modular`, `Ring`, `Sums`, `Inverse`) and modulo a prime (`Powers`, `Pigeons`, `Primes`: a test of primality, and p64 by it; `Factors`: no zero divisors),
-- and what the proofs of Field64's functions cite (`Halves`, `Residue`, `ByBits`).
pub mod Modular
pub mod Ring
pub mod Sums
pub mod Inverse
pub mod Powers
pub mod Pigeons
pub mod Primes
pub mod Factors
pub mod Halves
mod Residue
mod ByBits
