-- `Sensitivity`: how far one report can move the sums of a batch.
pub mod Sensitivity
