-- The steps behind the functions; then facts of the saddle test alone.
pub mod Exact
pub mod Table
pub mod Walk
pub mod Fitting
pub mod Spread
pub mod Inside
