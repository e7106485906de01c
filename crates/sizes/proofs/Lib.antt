-- What fitting means, for the callers.
pub mod Fitting
