-- The corner record, as document 02 has it.
pub mod Record
pub mod Stages
