pub mod CallForms
pub mod CallLines
pub mod Texts
pub mod Rows
pub mod StepLines
