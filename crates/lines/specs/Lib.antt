-- The printed lines, as document 01 has them.
pub mod Printed
pub mod Lines
