-- The states from which tests draw, and what they draw.
pub mod States
