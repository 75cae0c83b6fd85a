pub mod WrittenCellLemmas
pub mod HostLemmas
pub mod InstructionCells
pub mod TakeLemmas
pub mod FitLemmas
pub mod StepLemmas
pub mod StretchLemmas
pub mod KnownSteps
pub mod PlainViews
pub mod TidyFiles
pub mod WholeFiles
pub mod ChangedFileLemmas
pub mod PlainSteps
pub mod TextLemmas
pub mod SpliceLemmas
pub mod FirstLemmas
pub mod AskedLemmas
pub mod NoteLemmas
mod RunSteps
pub mod ColdLemmas
pub mod WholeRuns
mod TrialLemmas
pub use Rattle.i8080.proofs.LookLemmas
pub use Rattle.interaction_trees.proofs.RunLemmas
pub use Rattle.interaction_trees.proofs.DependenceLemmas
