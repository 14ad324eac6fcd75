-- The definitions that the contracts of encoding, the tests and the circuits cite.
pub mod Bits
pub mod Tests
pub mod Encode
pub mod Circuits
