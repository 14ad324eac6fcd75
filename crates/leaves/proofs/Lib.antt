-- Laws of the definitions over rows.
pub mod Turns
