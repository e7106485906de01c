-- What the program prints for a frame file.
pub mod Program
