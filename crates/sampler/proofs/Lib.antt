-- Laws of the values below p of a stream, of rows into which they are drawn, and of the cases of the call; computed examples.
pub mod Values
pub mod Keeping
pub mod Sampling
pub mod Examples
