-- The map, as document 01 has it.
pub mod Map
pub mod Work
