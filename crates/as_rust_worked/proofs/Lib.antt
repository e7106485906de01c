-- Three frames run through the text.
pub mod Worked
