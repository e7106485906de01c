-- Facts about the working image and about sizes that fit, for callers; then the steps of the proofs.
pub mod RoundedQuarter
pub mod Fits
pub mod Steps
