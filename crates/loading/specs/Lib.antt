pub mod Typed
pub mod Loading
pub use Rattle.machine.specs.Inputs
