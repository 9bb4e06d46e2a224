pub mod Refused
pub mod Every
