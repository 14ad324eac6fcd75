-- What the proofs of the functions cite, beside the laws of `validity`: `Rows` of the parts of a row of words.
mod Rows
