-- What the finder promises, in document 01's words.
pub mod Finder
