-- The verdict on a candidate: its window, then the rules; Judged is what is told by a scan's numbers, Room what the window's private functions ask.
pub mod Window
pub mod Verdict
pub mod Judged
pub mod Room
