pub mod PlaceBox
pub mod Returning
pub mod Restoring
