-- What the proofs of the functions cite, beside the laws of `gadgets`: `Parts` of the elements of a part of a row, `Columns` of the room in a sum of products, `Stored` of rows of powers, `Scaled` of sums with a factor to come, `Blocks` of a row taken block by block.
pub mod Parts
pub mod Columns
mod Stored
mod Blocks
pub mod Scaled
