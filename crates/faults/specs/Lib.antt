pub mod Faults
pub mod JobLines
pub mod Quoted
