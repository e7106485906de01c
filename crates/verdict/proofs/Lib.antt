-- The steps behind the window's tests and behind the rules; the callers cite what fits.
pub mod Windows
pub mod Rules
