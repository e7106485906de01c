-- What the blur depends on, how large its values are and which sizes fit, for callers; then the rows of the proofs.
pub mod BlurLaws
pub mod BlurRange
pub mod Fits
pub mod RowParts
