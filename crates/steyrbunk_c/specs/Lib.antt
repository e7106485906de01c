-- What the functions for C and Rust promise, over what the crates beneath promise.
pub mod Called
