-- Encoding in two steps.
pub mod Late
