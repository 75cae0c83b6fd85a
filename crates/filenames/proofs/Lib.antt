pub mod DriveLemmas
pub mod FieldLemmas
pub mod NameLemmas
pub mod SaidLemmas
pub mod SayableLemmas
