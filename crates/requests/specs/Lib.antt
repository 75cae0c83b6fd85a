pub mod World
pub mod Requests
pub mod Acts
pub mod Programs
