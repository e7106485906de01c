-- The demands as theorems (open this first), what the list is, document 01's numbers, facts about the list's arithmetic, and the steps of the proofs.
pub mod Demands
pub mod Lists
pub mod TableP
pub mod TableRun
pub mod Arithmetic
pub mod Left
pub mod Cases
