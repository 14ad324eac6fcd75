-- `Chain`: the laws of chains of rules. `Examples`: worked examples.
pub mod Chain
mod Examples
