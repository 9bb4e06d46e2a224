pub mod Questions
pub mod Steps
pub mod Scripts
pub mod Output
pub mod Service
pub mod Status
