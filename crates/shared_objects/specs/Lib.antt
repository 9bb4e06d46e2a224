-- What callers are promised.
pub mod Actors
pub mod Queries
pub mod Draws
pub mod Calls
pub mod Objects
pub mod internals
