-- The laws of the definitions, over any modulus: `Bits`, `Tests`, `Gradient`, `TrueNorm`, `Circuits` and `Readings` of the pieces, `Encoded` and `Valid` of an accepted encoding, `Sense` of names,
-- `Recorded` of the circuits' calls, `Vector` of any full vector for one share, `Fresh` of rows that are lent again, `Examples` and `Compared` of worked rows.
pub mod Bits
pub mod Tests
pub mod Gradient
pub mod TrueNorm
pub mod Circuits
pub mod Readings
pub mod Recorded
pub mod Vector
pub mod Encoded
pub mod Valid
pub mod Sense
pub mod Fresh
mod Examples
mod Compared
