-- `Verdicts`, `Effects`: what the proofs of the functions cite. `Accepted`: what an accepted call has met, and what makes it accept. `Decoded`: the decoded row. `Examples`: computed.
pub mod Verdicts
pub mod Effects
pub mod Accepted
pub mod Decoded
mod Examples
