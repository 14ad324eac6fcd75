-- Laws of rows of Field128's elements: `ByPairs` of loops that make one row of two, in place and element by element, `Carries` of how rule 12 is tested, `OneRun` of that beside adding; `Examples`: worked examples.
pub mod ByPairs
mod Carries
mod OneRun
mod Examples
