-- Laws of rows: `Lengths` of rule 7, `Elements` of rule 12, `ByElement` of two rows made one by element, `Added` of sums and differences, `Blocks` of how rule 12 is tested, `Walk` of loops in place, `Joining` of those that make one row of two; `Examples`: worked examples.
pub mod Lengths
pub mod Elements
pub mod ByElement
pub mod Added
pub mod Blocks
pub mod Walk
pub mod Joining
mod Examples
