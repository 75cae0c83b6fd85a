pub mod AreWords
pub mod Reports
pub mod RunEnds
pub mod Ends
pub mod MeteredEnds
