-- What the writers of a measurement give.
pub mod Parts
