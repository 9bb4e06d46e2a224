-- What only the proofs need: no clause that a caller sees cites it.
pub mod Views
pub mod Seats
pub mod Turns
pub mod Gathering
