-- What stands in a list of vectors, and how its counts are summed.
pub mod Vectors
pub mod Counts
