pub mod Cutting
pub mod Executing
pub mod Stepping
pub mod Breaking
pub mod Grammar
pub mod Once
pub mod ValidNames
