-- What a mean depends on and which sizes fit, for callers; then the steps of the proofs.
pub mod MeanLaws
pub mod Fits
pub mod Steps
