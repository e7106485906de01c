-- Steps of the proofs: the loop over cameras, and the call.
pub mod Cameras
pub mod Call
