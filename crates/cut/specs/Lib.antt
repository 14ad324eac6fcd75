-- `Cut` is what the call gives; `Late` the call in steps.
pub mod Cut
pub mod Late
