-- The console calls that can run out of memory. (This project's own.)
use Rattle.std.specs.Prelude.{ℕ, ◌==◌, ◌||◌, if◌then◌else◌, not, Bool, false, List, slice_get}
use Rattle.std.specs.Option.{option_map_or}
use Rattle.i8080.specs.declared.registers.Regs.{Regs}
use Rattle.console_calls.specs.declared.desk.Spot.{Spot}
use Rattle.console_calls.specs.Desk.{is_echoed}

-- Whether a call can run out of memory: a call that sends bytes, for the text; functions 8 and 10, for the cells that they write;
-- and function 10, for the line that it collects. The other calls never fail.
abbrev pub may_grow : Regs → Spot → List ℕ → Bool
may_grow r spot script =
    if r.c == 1 then option_map_or is_echoed (slice_get script spot.cursor) false
    else if r.c == 6 then not (r.e == 0xff)
    else r.c == 2 || r.c == 8 || r.c == 9 || r.c == 10
