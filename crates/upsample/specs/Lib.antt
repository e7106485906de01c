-- The working image, as document 01 gives it (Upsample); then what the contracts of private functions name.
pub mod Upsample
pub mod Kernel
pub mod Fitting
pub mod Source
