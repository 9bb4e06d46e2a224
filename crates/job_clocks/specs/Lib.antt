pub mod JobPasts
pub mod Within
pub mod Serving
pub mod Evidence
pub mod Worked
