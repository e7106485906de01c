-- The steps of the searches and of the maximum; the callers cite what fits.
pub mod Passing
pub mod Found
pub mod Greatest
