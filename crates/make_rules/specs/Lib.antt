pub mod Escapes
pub mod Carried
pub mod Reading
pub mod Files
pub mod Rule
pub mod Paths
pub mod RunRules
pub mod RefusedPaths
