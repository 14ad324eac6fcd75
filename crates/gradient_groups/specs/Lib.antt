-- What the inner functions of encoding's pass over a gradient give.
pub mod Squares
pub mod Spare
