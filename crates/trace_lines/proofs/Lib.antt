pub mod BlockLemmas
pub mod CellLemmas
