-- How true the blurred map is, as theorems (open this first), and the steps to them.
pub mod HowTrue
pub mod MapTrue
pub mod Worked
pub mod Fifteen
pub mod Blurred
pub mod Windows
pub mod Strengths
