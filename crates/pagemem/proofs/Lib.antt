pub mod AgreementLemmas
pub mod Laws
pub mod PartLemmas
pub mod RunLaws
pub mod ListingLemmas
pub mod KnownLemmas
pub mod KnownCells
pub mod LearnedLemmas
