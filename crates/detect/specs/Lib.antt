-- The list: document 01's rules in the document's order, then what the private functions hand each other.
pub mod Corners
pub mod Detected
pub mod Scan
