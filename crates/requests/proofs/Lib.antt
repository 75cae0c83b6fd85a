pub mod Ending
mod Pieces
