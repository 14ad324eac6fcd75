-- The limbs of elements.
pub mod Limbs
