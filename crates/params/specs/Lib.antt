-- The settings, the coordinates and the answers, as document 01 has them.
pub mod Settings
pub mod Coordinates
pub mod Answers
pub mod Refusals
