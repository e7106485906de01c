-- The response, as document 01 gives it, and what the door promises: Response and Lent are to be believed.
-- Then what the passes inside promise each other.
pub mod Response
pub mod Lent
pub mod Shown
pub mod Read
