-- The Rust's text as definitions, a file for each of its files, to be held beside it: crates/chess-corners-core/src/detect of chess-corners-rs,
-- commit fbc3e85b96. A name's `_` is written `-`: `sat-row` is `sat_row`. Numbers in comments are lines of the Rust's file.
pub mod Machine
pub mod Root
pub mod Primitives
pub mod Response
pub mod Neighbors
pub mod Detect
pub mod Runs
