pub mod RunLemmas
pub mod DependenceLemmas
