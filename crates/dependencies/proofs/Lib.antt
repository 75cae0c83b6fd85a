pub mod BiosLemmas
pub mod DecideLemmas
pub mod RowLemmas
