-- `Distance`: distances of whole numbers, and of doubles as exact numbers. `Moves`: how far one report moves the sums. `Length`: the sum of squares in the field, and rule 10. `Examples`: the statements can be met, and the bounds are reached.
mod Distance
pub mod Moves
pub mod Length
mod Examples
