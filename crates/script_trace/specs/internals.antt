pub mod Asking
pub mod Keeping
pub mod Playing
