-- What holds inside of a walk over stamps: proofs need it, and no public clause says it.
pub mod Sweeping
