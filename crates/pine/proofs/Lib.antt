-- Laws of the record: `Digits` of binary digits, `Limits` of what accepted inputs have met, `Exponent` of the byte that the record holds for the bound, `Sizes` of what follows for the record, `Words` of rows of words; `Examples`: worked examples.
pub mod Digits
pub mod Limits
pub mod Exponent
pub mod Sizes
pub mod Words
mod Examples
