pub mod Naming
pub mod Taken
mod Phases
mod TaskNumbers
mod Adding
pub mod TaskClocks
mod SliceLists
mod Gathering
