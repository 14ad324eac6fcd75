-- The definitions that the contracts of `doubles128` cite: `Doubles128` has the limits of Field128 for what `doubles` defines over any field, `Steps` says what the functions below the two public calls give.
pub mod Doubles128
pub mod Steps
