pub mod AreTraceWords
pub mod Choices
pub mod Program
