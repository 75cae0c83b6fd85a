pub mod WrittenPieces
mod Texts
pub mod Pushes
