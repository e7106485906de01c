-- What the contracts cite.
pub mod Faults
