-- What is known of an arch before anything is found.
pub mod Plan
pub mod Gone
