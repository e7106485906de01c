-- What the replay programs compare and count.
pub mod Tallies
pub mod Entries
