-- All cameras of an arch in one call.
pub mod Arch
