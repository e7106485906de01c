-- That the lines which a program prints are its file's alone, and those of a frame too small to judge.
pub mod SameLines
pub mod Small
