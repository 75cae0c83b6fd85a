-- How much of a reply was written. (This project's own.)
use Rattle.std.specs.Prelude.{◌≡◌, List, ℕ, Result, Ok, Err}
use Rattle.streams.specs.Streams.{Output, WritesPart, WritesWhole}
use Rattle.edit_lines.specs.declared.ending.ReplayFault.{ReplayFault}
use Rattle.edit_lines.specs.declared.ending.ReplayFault.TheVariants.{Write}

-- The whole reply was written, or a prefix of it, and the error is the writer's.
abbrev pub Replies : {U : Type 0} → Output → Output → List ℕ → Result U ReplayFault → Type 0
Replies old new text (Ok _) = WritesWhole old new text
Replies old new text (Err e) = (e ≡ Write) × WritesPart old new text
