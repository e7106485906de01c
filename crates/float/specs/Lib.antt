-- The constants of f32 that definitions name.
pub mod Values
