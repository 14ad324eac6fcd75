-- Arithmetic modulo any number, with Field64's modulus; sums of rows; primes.
pub mod Field
pub mod Sums
pub mod Prime
