-- The rows that the tests tile by tile are lent.
pub mod Tiles
