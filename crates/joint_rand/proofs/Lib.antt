-- Laws of parts and seeds.
pub mod Parts
