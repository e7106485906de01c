-- Laws of what the replay programs compare and count, over plain variables.
pub mod Counting
pub mod Comparing
