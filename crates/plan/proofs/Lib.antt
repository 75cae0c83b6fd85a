pub mod Additions
pub mod Committing
pub mod Descriptions
pub mod Failures
pub mod Maps
pub mod Preparing
