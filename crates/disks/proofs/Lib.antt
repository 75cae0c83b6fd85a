pub mod Folders
pub mod Names
