-- Steps of the proofs, and that the map goes by three settings.
pub mod OnlyThree
pub mod Cameras
