-- `Table`: the worked examples. `Counts`, `Tally`, `Cut`, `Report`, `Centred`, `Aggregation`: aggregates under a list of calls, and rows cut in two. `Correctness`: the whole, and `Lists` its case without withdrawals. `Undo`: what a withdrawal undoes. `Examples`: it can be met.
mod Table
pub mod Counts
pub mod Centred
pub mod Cut
pub mod Tally
pub mod Report
pub mod Aggregation
pub mod Undo
pub mod Correctness
pub mod Lists
pub mod Examples
