pub mod FileQuestions
pub mod TableView
pub mod Asks
pub mod Findings
pub mod DistinctKeys
pub mod Deletes
pub mod Changes
pub mod HostTrees
