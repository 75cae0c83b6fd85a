-- A saved state: a state without its text. (This project's own.)
use Rattle.std.specs.Prelude.{ℕ, List, length}
use Rattle.i8080.specs.declared.registers.Regs.{Regs}
use Rattle.console_calls.specs.declared.desk.Spot.{Spot}
use Rattle.machine.specs.StateView.{Own, PartialState}

-- A state with the length of its text in place of the text.
pub record SavedState : Type 0 where
  pub regs : Regs
  pub spot : Spot
  pub length : ℕ
  pub own : Own

-- The state that is restored from a saved state and its text.
abbrev pub state_with_text : SavedState → List ℕ → PartialState
state_with_text k text = record { core = record { regs = k.regs; desk = record { spot = k.spot; text = text } }; own = k.own }

abbrev pub saved_state_of : PartialState → SavedState
saved_state_of st = record { regs = st.core.regs; spot = st.core.desk.spot; length = length st.core.desk.text; own = st.own }
