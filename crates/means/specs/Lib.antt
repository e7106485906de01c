-- The means along a row and down the columns, as document 01 gives them (Means); then what the contracts of private functions name.
pub mod Means
pub mod Kernel
