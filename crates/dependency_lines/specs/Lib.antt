pub mod Words
pub mod Heads
pub mod Places
pub mod Names
pub mod Listing
