-- The laws that the proofs of the functions cite. `Laws`: the product by 2 ^ k, the quotient and the floor by value. `Floor`: what the code's tests on a double say of its floor. `Minus`: sums, differences and floors
-- of doubles by their values. `Binade`: rounding and bit patterns where values are the multiples of a power of two. `Raised`: the sum with a middle of those. `Near`, `Split`: the floor by one such sum, and by two.
-- `Accept`: which doubles are refused. `Centred`, `Nearest`: the way back. `Sense`: the definitions are what they are called. `Parts`: whole numbers by two parts.
pub mod Laws
pub mod Floor
pub mod Minus
pub mod Binade
pub mod Raised
pub mod Near
pub mod Split
pub mod Accept
pub mod Centred
pub mod Nearest
pub mod Sense
pub mod Parts
