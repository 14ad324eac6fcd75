-- Laws of counting keys.
pub mod Moved
pub mod Steps
pub mod Days
pub mod Sizes
mod Examples
