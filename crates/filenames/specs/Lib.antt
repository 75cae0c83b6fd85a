pub mod Drives
pub mod Names
pub mod NameError
pub mod ControlBlock
