-- The places and rows of the map: document 01's rules.
pub mod Places
