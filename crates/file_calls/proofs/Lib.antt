pub mod Extending
pub mod Shapes
pub mod Drives
pub mod Deletion
pub mod Parts
pub mod Names
pub mod Answering
pub mod Soundness
