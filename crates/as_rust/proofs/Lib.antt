-- Ours is the Rust's (Crown: open this first), its literals and its indices; then the steps, in the Rust's order.
pub mod Crown
pub mod Literals
pub mod Indices
pub mod Machine
pub mod Tests
pub mod Loops
pub mod Exact
pub mod Upsample
pub mod Tables
pub mod Response
pub mod Blur
pub mod Map
pub mod Neighbors
pub mod Root
pub mod Saddle
pub mod Values
pub mod Detect
