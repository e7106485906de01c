-- Sizes that fit.
pub mod Fits
