-- The modulus of Field128, the numbers that words stand for, and rows of them.
pub mod Field128
pub mod FourWords
pub mod Joined
