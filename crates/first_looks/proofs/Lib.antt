pub mod StepLemmas
pub mod AnswerLemmas
pub mod LeastLemmas
pub mod EntryLemmas
pub mod OrderLemmas
pub mod TurnLemmas
pub mod RecordLemmas
