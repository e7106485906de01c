-- The tables against the sums that they stand for, the steps of the passes, and what fitting takes.
pub mod Summed
pub mod Running
pub mod Columns
pub mod Fit
