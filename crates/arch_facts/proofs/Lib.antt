-- What holds of a call for all cameras of an arch.
pub mod Parts
pub mod Work
pub mod Single
pub mod Fold
pub mod Left
pub mod Ten
pub mod Laid
pub mod Lists
pub mod Arches
