-- `Table`: the worked examples. `Tally`: aggregates under a list of calls. `Correctness`: the main theorem. `Withdrawal`: the laws of adding and taking out.
pub mod Table
pub mod Tally
pub mod Correctness
pub mod Withdrawal
