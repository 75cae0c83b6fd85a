-- Learned opcodes. (This project's own.)
use Rattle.std.specs.Prelude.{◌≡◌, ◌<◌, ◌+◌, ℕ, Bool, IsTrue}
use Rattle.i8080.specs.Opcodes.{decoded}
use Rattle.i8080.specs.Operands.{byte_count}
use Rattle.pagemem.specs.declared.known.TheConstants.{SYSTEM_AREA}

-- Each of this many cells, starting with `a`, is known.
abbrev pub AreKnown : (ℕ → Bool) → ℕ → ℕ → Type 0
AreKnown is_known a count = (i : ℕ) → i < count → IsTrue (is_known (a + i))

-- The opcode that is kept for a cell is the byte of the cell, which is below the system area. Each byte of the instruction is known.
pub record IsLearned (is_known : ℕ → Bool) (byte q opcode : ℕ) : Type 0 where
  pub known : IsTrue (is_known q)
  pub operand : AreKnown is_known q (byte_count (decoded opcode))
  pub same : opcode ≡ byte
  pub low : q < SYSTEM_AREA
