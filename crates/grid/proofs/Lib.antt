-- The laws of flat maps, in the order in which they stand on each other.
pub mod Fill
pub mod Plane
pub mod Loops
pub mod Touch
pub mod Part
pub mod Span
pub mod Fold
pub mod Ways
pub mod Each
pub mod Rect
pub mod Over
pub mod All
pub mod Entries
