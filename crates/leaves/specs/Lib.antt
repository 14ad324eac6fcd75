-- What the loops of `leaves` give, as recursions on rows.
pub mod Leaves
