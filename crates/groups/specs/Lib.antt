-- The tests by groups of columns.
pub mod Groups
