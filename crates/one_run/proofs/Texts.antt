-- What was written of a text of a run.
use Rattle.std.proofs.Common.{◌≡◌, ◌⊎◌, ℕ, List, [], Result, Ok, Err, inl, inr}
use Rattle.streams.specs.Pushing.{Pushed, PushesPart}
use Rattle.streams.specs.Streams.{Output, WritesPart, WritesText}
use Rattle.streams.proofs.WrittenPieces.{all_written, part_written}
use Rattle.one_run.specs.RunTexts.{WritesFirst}

-- Writing what was pushed of a text ended well or not: a prefix of the text was written.
pub either_written : {old new last : Pushed} {text : List ℕ} {b : Output} {T E : Type 0} → old.text ≡ [] → PushesPart old new text → last ≡ new → (r : Result T E)
    → WritesText last.start b last.text r → WritesFirst old.start b text ⊎ WritesPart old.start b text
either_written none part same (Ok u) written = inl (all_written none part same written)
either_written none part same (Err e) written = inr (part_written none part same written)
