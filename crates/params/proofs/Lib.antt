-- What the proofs of the functions cite, and what an accepted call has passed.
pub mod Judged
pub mod Accepted
