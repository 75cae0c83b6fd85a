pub mod Tree
pub mod Outcome
pub mod Run
pub mod Steps
pub mod Dependence
