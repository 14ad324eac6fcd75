-- `Text` is what a text says; `Steps` what the inner functions give.
pub mod Text
pub mod Steps
