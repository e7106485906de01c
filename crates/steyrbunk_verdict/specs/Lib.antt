-- What the function for C and Rust promises.
pub mod Place
