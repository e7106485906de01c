-- What the proofs of the functions cite, and what holds of the definitions.
pub mod Numerals
pub mod Appended
pub mod Digits
pub mod Printing
pub mod Worked
