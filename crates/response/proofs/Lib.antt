-- What the passes ask and leave, and the facts on the map.
pub mod Runs
pub mod Composed
pub mod Cases
pub mod MapFacts
pub mod Places
pub mod Beyond
pub mod Same
