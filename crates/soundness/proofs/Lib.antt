-- `Counting`, `Roots`: sums below a number, and how many roots a polynomial has modulo a prime. `Cases`: the zeros of the main circuit's polynomial, modulo a prime. `Soundness`: the whole. `Examples`: it can be met.
pub mod Counting
pub mod Roots
pub mod Cases
pub mod Soundness
mod Examples
