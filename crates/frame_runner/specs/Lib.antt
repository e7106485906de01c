-- What a frame file is answered.
pub mod FileAnswer
