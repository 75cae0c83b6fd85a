pub mod Words
pub mod PageZero
