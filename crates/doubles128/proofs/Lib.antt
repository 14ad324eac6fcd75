-- Laws beside those of `doubles`: `Scaled` of the limit and the product by the scale; `Words` of a floor by a word and a sign; `Sizes` of elements by their words, p and rule 23; `Sense`: limbs are what they
-- are called; `Examples`: worked rows.
pub mod Scaled
pub mod Words
pub mod Sizes
pub mod Sense
mod Examples
