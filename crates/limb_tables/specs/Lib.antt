-- The tables of limbs.
pub mod LimbTables
