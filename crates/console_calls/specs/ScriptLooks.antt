-- The script offsets that were looked at: calls look at offsets in order, and never before the cursor. (This project's own.)
use Rattle.std.specs.Prelude.{◌≡◌, ℕ, ◌+◌, ◌≤◌, ◌<◌, ◌==◌, ◌&&◌, ◌||◌, not, nat_le, nat_lt, Bool}
use Rattle.console_calls.specs.declared.script_looks.ScriptLooks.{ScriptLooks}
use Rattle.console_calls.specs.declared.desk.Spot.{Spot}
use Rattle.console_calls.specs.Desk.{Desk}

-- Whether an offset is among them.
abbrev pub is_within : ScriptLooks → ℕ → Bool
is_within p k = nat_le p.from k && nat_lt k p.to

-- Whether an offset is among the `count` offsets from the cursor on.
abbrev pub is_ahead : ℕ → ℕ → ℕ → Bool
is_ahead cursor count k = nat_le cursor k && nat_lt k (cursor + count)

-- The `count` offsets from the cursor on were looked at, as well as the earlier ones.
abbrev pub LooksAhead : ScriptLooks → ℕ → ℕ → ScriptLooks → Type 0
LooksAhead old cursor count new = (k : ℕ) → is_within new k ≡ (is_within old k || is_ahead cursor count k)

-- One offset is removed from the offsets that were looked at.
abbrev pub LeavesOut : ScriptLooks → ℕ → ScriptLooks → Type 0
LeavesOut old offset new = (k : ℕ) → is_within new k ≡ (is_within old k && not (k == offset))

-- A desk, and the script offsets that were looked at.
pub record DeskLooks : Type 0 where
  pub desk : Desk
  pub looks : ScriptLooks

-- A spot that fits a text of this length.
pub record IsSpotOf (spot : Spot) (length : ℕ) : Type 0 where
  pub column : spot.column ≤ length
  pub cursor : spot.cursor < 9223372036854775808
