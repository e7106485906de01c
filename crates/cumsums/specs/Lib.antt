-- The four tables as document 01 gives them, and what the door promises: Tables, Lent and Shown are to be believed.
-- Then what the passes inside promise each other.
pub mod Tables
pub mod Lent
pub mod Shown
pub mod Passes
