-- What holds of the definitions.
pub mod RoundTrip
