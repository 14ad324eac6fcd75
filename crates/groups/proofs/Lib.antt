-- `Swapped` of the tests taken by groups of bytes, `Each` of the loops over a group's tests, `Halves` of the halves of a byte.
pub mod Swapped
pub mod Each
pub mod Halves
