-- The inputs as C has them.
pub mod Bytes
