-- Laws of what stands in a list of vectors, over plain variables.
pub mod Places
