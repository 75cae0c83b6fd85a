-- The parts of a session, and what a step depends on. (This project's own.)
use Rattle.std.specs.Prelude.{ℕ, List}
use Rattle.i8080.specs.declared.registers.Regs.{Regs}
use Rattle.console_calls.specs.Desk.{Desk}
use Rattle.hostfiles.specs.Hosts.{Host}

-- The parts of a session.
pub record Session : Type 0 where
  pub program : List ℕ
  pub tail : List ℕ
  pub files : Host
  pub script : List ℕ
  pub limit : ℕ

-- What a step depends on besides the answers to its questions.
pub record Core : Type 0 where
  pub regs : Regs
  pub desk : Desk
