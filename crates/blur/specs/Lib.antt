-- The box blur, as document 01 gives it (Blur); then what the contracts of private functions name.
pub mod Blur
pub mod Fitting
