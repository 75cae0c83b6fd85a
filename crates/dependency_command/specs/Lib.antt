pub mod AreDependencyWords
pub mod Answers
pub mod Program
