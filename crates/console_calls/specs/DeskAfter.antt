-- A desk after bytes were sent, printed or taken, and after a rollback. (This project's own.)
use Rattle.std.specs.Prelude.{◌≡◌, ℕ, ◌+◌, List, [], ◌∷◌, ◌++◌, take, OnOk, OnErr}
use Rattle.std.specs.declared.result.Result.{Result}
use Rattle.std.specs.declared.alloc.AllocError.{AllocError}
use Rattle.console_calls.specs.declared.desk.Spot.{Spot}
use Rattle.console_calls.specs.ScriptLooks.{DeskLooks}
use Rattle.console_calls.specs.Desk.{Desk, column_after_all, ConsoleText, printed_bytes, spot_showing}

-- Bytes sent from a column on.
abbrev pub sent_bytes : ℕ → List ℕ → ConsoleText
sent_bytes column bytes = record { bytes = bytes; column = column_after_all column bytes }

-- A byte sent that leaves the column unchanged.
abbrev pub unmoved_byte : ℕ → ℕ → ConsoleText
unmoved_byte column byte = record { bytes = byte ∷ []; column = column }

-- The desk after these bytes were sent.
abbrev pub desk_showing : Desk → ConsoleText → Desk
desk_showing d s = record { spot = spot_showing d.spot s; text = d.text ++ s.bytes }

-- The effect of a function that sends a text, given for each column, which changes nothing if memory runs out.
pub record SendsText (old : DeskLooks) (text : ℕ → ConsoleText) (result : Result (Unit {0}) AllocError) (new : DeskLooks) : Type 0 where
  pub ok : OnOk result (new.desk ≡ desk_showing old.desk (text old.desk.spot.column))
  pub looks : new.looks ≡ old.looks
  pub err : OnErr result (new ≡ old)

-- The desk at another spot.
abbrev pub at_spot : Desk → Spot → Desk
at_spot d spot = record d { spot = spot }

-- The desk after this number of script bytes was taken.
abbrev pub desk_taking : Desk → ℕ → Desk
desk_taking d count = at_spot d (record d.spot { cursor = d.spot.cursor + count })

-- The desk with an earlier spot, and its text cut to a length.
abbrev pub desk_back : Spot → ℕ → Desk → Desk
desk_back spot length d = record { spot = spot; text = take length d.text }

-- The desk after bytes were printed.
abbrev pub desk_printing : Desk → List ℕ → Desk
desk_printing d bytes = desk_showing d (printed_bytes d.spot.column bytes)
