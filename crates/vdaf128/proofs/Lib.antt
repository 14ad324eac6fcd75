-- `Verdicts`, `Sizes`: what the proofs of the functions cite, beside the laws of `vdaf`.
mod Verdicts
mod Sizes
