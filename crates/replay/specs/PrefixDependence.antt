-- Input that was not read has no influence on a run. (This project's own.)
--
-- A step asks its session for bytes of the loaded memory, for bytes of the script and for facts about the host files. If a second
-- session gives the same answers to all that the first n steps of a session ask, its first n steps do and ask the same. In all
-- else the two may differ: in program, tail, script, host files and limit.
use Rattle.std.specs.Prelude.{◌≡◌, ℕ, ◌<◌, Some}
use Rattle.machine.specs.Inputs.{Session}
use Rattle.machine.specs.StateView.{PartialState}
use Rattle.machine.specs.Session.{IsSession}
use Rattle.machine.specs.Machine.{session_answers, after, looks}
use Rattle.machine.specs.PlainLaid.{laid_state}
use Rattle.machine.specs.PlainLaid.{plain_after}
use Rattle.replay.specs.Touch.{Untouched}

-- n steps of the session s lead to the state st, and n steps of the session t lead to the same.
pub record RunsAlike (s t : Session) (n : ℕ) (st : PartialState) : Type 0 where
  -- The state of t after n steps; t does not stop before.
  pub other : PartialState
  pub there : after (session_answers t) n ≡ Some other
  -- Both have the same registers, and the same text, cursor, column, buffer address, search place and current drive.
  pub regs : other.core.regs ≡ st.core.regs
  pub desk : other.core.desk ≡ st.core.desk
  -- The steps wrote the same bytes to the same cells, and did the same to the files.
  pub own : other.own ≡ st.own
  -- On the plain machine, the whole memory and all files of each are what its steps wrote, laid over its own session.
  pub plain : plain_after s n ≡ Some (laid_state s st)
  pub other_plain : plain_after t n ≡ Some (laid_state t other)
  -- Each of the steps asked the same questions, in the same order.
  pub looks : (i : ℕ) → i < n → looks (session_answers t) i ≡ looks (session_answers s) i

-- If n steps of s lead to a state, and t gives the same answers to all that they ask, n steps of t run alike.
abbrev pub PrefixDependence : Type 0
PrefixDependence = (s t : Session) → IsSession s → IsSession t → (n : ℕ) (st : PartialState) → after (session_answers s) n ≡ Some st
    → Untouched (session_answers s) (session_answers t) n → RunsAlike s t n st
