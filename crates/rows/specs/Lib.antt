pub mod Rows
pub mod Outcome
