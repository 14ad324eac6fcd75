-- The inputs of a load.
pub mod Inputs
