-- Laws of Field128 as the calls take it: `Limits` of its inputs, its room and its rows; `Examples`: worked rows.
pub mod Limits
mod Examples
