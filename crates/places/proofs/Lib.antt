-- What follows from the rules (Facts), and the step by which the code is shown to follow them (Steps).
pub mod Facts
pub mod Steps
