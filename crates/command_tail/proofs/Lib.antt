pub mod Fields
pub mod Pages
