-- Flat maps: what a pass leaves in a buffer, sums along a line, places in row order, lists of whole entries.
pub mod Fill
pub mod Plane
pub mod Touch
pub mod Span
pub mod Fold
pub mod Ways
pub mod Each
pub mod Rect
pub mod Over
