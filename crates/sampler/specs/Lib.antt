-- `Sampler` is what the call gives; `Drawing` what the functions that draw give.
pub mod Sampler
pub mod Drawing
