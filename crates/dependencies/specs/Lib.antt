pub mod Bios
pub mod Dependencies
pub mod Rows
