-- Results over one modulus as results over another.
pub mod Narrow
