-- What the inner functions give.
pub mod OneTest
