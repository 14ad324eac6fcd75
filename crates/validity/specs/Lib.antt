-- What the inner functions of the circuits give.
pub mod OnParts
