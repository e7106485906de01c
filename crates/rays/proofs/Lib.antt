-- The steps of the passes, the facts about the response, and what fitting takes.
pub mod Parts
pub mod Inner
pub mod SpreadExact
pub mod Showing
pub mod Reading
pub mod Fit
pub mod Alike
