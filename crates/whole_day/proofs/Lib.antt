-- `Adding`: one call. `Days`: any calls of adding, by entries. `Keys`: one key, its entry and its sums. `Sizes`: the exact size. `Different`: different keys, byte by byte. `Whole`: the statements.
pub mod Adding
pub mod Days
pub mod Keys
pub mod Sizes
pub mod Different
pub mod Whole
