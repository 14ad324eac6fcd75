-- A law of the calls on one coordinate.
pub mod Coordinates
