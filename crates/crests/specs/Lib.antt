-- The map's maximum, and what a search along a row finds.
pub mod Maximum
pub mod Crests
