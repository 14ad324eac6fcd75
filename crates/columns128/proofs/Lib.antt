-- `Sums` of a group's limbs.
mod Sums
