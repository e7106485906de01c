-- A list that the finder wrote, kept as a corner record.
pub mod Kept
