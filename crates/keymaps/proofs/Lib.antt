pub mod Views
pub mod Below
pub mod Rising
pub mod Left
pub mod MarkLemmas
pub mod Firsts
pub mod SpelledLemmas
