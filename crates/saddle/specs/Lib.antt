-- The saddle test: document 01's definitions, then what the private functions hand each other.
pub mod Saddle
pub mod Steps
