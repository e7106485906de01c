-- Laws of numbers in bytes: the numbers themselves, what is put into a buffer, and the patterns of a NaN.
pub mod Numbers
pub mod Fits
pub mod Patterns
