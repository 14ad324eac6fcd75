-- What the weights are.
pub mod Weights
