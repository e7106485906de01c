-- The definitions of the crate: what the contracts of `sqrt` and `ln` say (Bits, Root,
-- Log), and records that only pass between private functions (Steps).
pub mod Bits
pub mod Root
pub mod Log
pub mod Steps
