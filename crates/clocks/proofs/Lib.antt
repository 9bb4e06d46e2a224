pub mod DivUp
pub mod Stretching
pub mod Bounding
pub mod Keeping
pub mod Freshness
pub mod Restarting
pub mod Ticking
pub mod KeptNumbers
