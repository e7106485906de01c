-- The laws that the proofs of the functions cite, and the facts on the definitions (Facts, Examples).
pub mod Squares
pub mod Patterns
pub mod Quarters
pub mod Nearest
pub mod Series
pub mod Range
pub mod Rounding
pub mod Close
pub mod Facts
pub mod Examples
