-- Laws of the corner record: what the proofs of its functions cite, and the theorems of kept lists.
pub mod Taken
pub mod Strays
pub mod Puts
pub mod Calls
pub mod Chains
pub mod RoundTrip
pub mod KeptLists
