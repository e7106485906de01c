-- The peak fit.
pub mod PeakFit
