pub mod Tables
pub mod Renaming
pub mod TableParts
