-- `Rounds` of the rounds, one after the other; `Tables`: both tables are those that FIPS 202 computes.
pub mod Rounds
pub mod Tables
