-- Laws of the walk along the frames, of the shares, and of which calls are taken.
pub mod Frames
pub mod InList
pub mod Judged
