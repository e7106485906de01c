-- The facts that the proofs of the functions lean on, and those that are proved of the definitions alone.
pub mod Tally
pub mod Scanning
pub mod Rows
pub mod Allowing
pub mod Kept
pub mod HigherSettings
pub mod HigherCounts
pub mod ShorterList
pub mod Inside
pub mod Places
