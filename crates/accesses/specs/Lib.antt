pub mod Ranges
pub use Rattle.machine.specs.Accesses
