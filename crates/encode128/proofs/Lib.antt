-- What the proofs of the functions cite, beside the laws of `encode`: `Narrowed` of a norm and results as Field64's, `Found` of results that the tests found,
-- `Rows` of lengths in words; `Examples`: worked rows.
mod Narrowed
mod Found
mod Rows
mod Examples
