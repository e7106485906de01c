-- Laws of f32 arithmetic: rules proved by computing, bounds on a result's size, order, products, whole numbers, the error of roundings.
pub mod Computed
pub mod Sized
pub mod Ranged
pub mod Shifted
pub mod Order
pub mod Product
pub mod Whole
pub mod Once
pub mod Rounded
