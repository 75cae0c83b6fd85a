-- What a writer holds and what is left of a reader, and how much of a text was written. (This project's own.)
use Rattle.std.specs.Prelude.{◌≡◌, ℕ, ◌+◌, ◌⊎◌, List, take, Option, Result, Ok, Err}
use Rattle.std.specs.Io.KnownBytes.{Appends}

-- What a writer holds, if it reports that, and how often it failed.
pub record Output : Type 0 where
  pub holds : Option (List ℕ)
  pub failures : ℕ

-- What is left of a reader, if it reports that, and how often it failed.
pub record Input : Type 0 where
  pub left : Option (List ℕ)
  pub failures : ℕ

-- The whole text was written, with no failure.
pub record WritesWhole (old new : Output) (text : List ℕ) : Type 0 where
  pub bytes : Appends old.holds new.holds text
  pub failures : new.failures ≡ old.failures

-- A prefix of the text was written, and then writing failed.
pub record WritesPart (old new : Output) (text : List ℕ) : Type 0 where
  pub count : ℕ
  pub bytes : Appends old.holds new.holds (take count text)
  pub failures : new.failures ≡ old.failures + 1

-- The whole text was written, or a prefix of it if the result is an error.
abbrev pub WritesText : {T E : Type 0} → Output → Output → List ℕ → Result T E → Type 0
WritesText old new text (Ok _) = WritesWhole old new text
WritesText old new text (Err _) = WritesPart old new text

-- The whole text was written, or a prefix of it if writing failed.
abbrev pub WritesOrFails : Output → Output → List ℕ → Type 0
WritesOrFails old new text = WritesWhole old new text ⊎ WritesPart old new text
