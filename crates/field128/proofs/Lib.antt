-- Laws of Field128: `Instances` of Field64's laws, p128 prime among them; `Pairs` of rows of elements by their words; `Joined` of numbers added before they are known
-- to be elements; and what the proofs of the functions cite, `Quotients` of p by a small number and `Flags` that pick one of two words.
pub mod Instances
pub mod Pairs
pub mod Joined
mod Quotients
mod Flags
