pub mod ErrorClass
pub mod CommandLine
pub mod RunLine
pub mod DependencyLine
pub mod TraceLine
pub mod Clashes
pub mod Rows
