-- What private functions and proofs speak of, and no clause of a public call.
pub mod Laws
