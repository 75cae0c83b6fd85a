pub mod KeptLemmas
pub mod Laws
pub mod ZerosLaws
