-- The view of the map: document 01's rules.
pub mod View
