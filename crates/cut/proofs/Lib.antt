-- `Cutting`: the cases of the call.
pub mod Cutting
