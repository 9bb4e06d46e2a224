-- What only the clauses of private functions cite.
pub mod Pairs
pub mod Sweeps
pub mod Turns
