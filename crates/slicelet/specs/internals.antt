-- What the bodies and their proofs speak of, and no clause of a public call.
pub mod State
pub mod Stamping
