-- Facts of the saddle test that are computed for each ray radius: its root is never outside, and the numbers that a radius fixes.
pub mod Rooted
pub mod SaddleNumbers
