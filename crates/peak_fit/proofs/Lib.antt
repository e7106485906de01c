-- Facts of the fit alone: where an offset lies, and that the fit is the Rust's.
pub mod Offsets
pub mod AsRust
pub mod Three
