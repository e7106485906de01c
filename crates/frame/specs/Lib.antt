-- The frame file, as document 01 has it.
pub mod FrameFile
pub mod Fields
