-- The limbs of floors.
pub mod Floors
