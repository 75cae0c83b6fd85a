pub mod DeleteLaws
pub mod LookLaws
