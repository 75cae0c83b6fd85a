-- What was pushed onto a text. (This project's own.)
use mathlib.Core.HLevel.{⊥_prop}
use Rattle.std.specs.Prelude.{◌≡◌, ℕ, List, ◌++◌, Bool, true, false, Option, None, Some, Result, Ok, Err, OnOk}
use Rattle.std.specs.Coded.{Unit-prop, Coded-set, coded_list, coded_ℕ}
use Rattle.std.specs.Io.KnownBytes.{Appends}
use Rattle.std.specs.Borrow.{GName}
use Rattle.streams.specs.Streams.{Output}

-- All that was pushed, what the writer held before, and the reference that lends the writer.
pub record Pushed : Type 0 where
  pub text : List ℕ
  pub start : Output
  pub lender : GName

-- The same with a piece after the text.
abbrev pub more : Pushed → List ℕ → Pushed
more p piece = record p { text = p.text ++ piece }

-- A prefix of a text was pushed: with the rest of it, all of it would be.
pub record PushesPart (old new : Pushed) (text : List ℕ) : Type 0 where
  pub rest : List ℕ
  pub split : more new rest ≡ more old text

-- A text was pushed, or a prefix of it if the result is an error.
abbrev pub PushesText : {T E : Type 0} → Pushed → Pushed → List ℕ → Result T E → Type 0
PushesText old new text (Ok u) = new ≡ more old text
PushesText old new text (Err e) = PushesPart old new text

-- The same, but it may also be a prefix if sending failed.
pub record PushesUnless {T E : Type 0} (failed : Bool) (old new : Pushed) (text : List ℕ) (result : Result T E) : Type 0 where
  pub part : PushesPart old new text
  pub whole : failed ≡ false → OnOk result (new ≡ more old text)

-- The number of failures.
abbrev pub as_count : Bool → ℕ
as_count true = 1
as_count false = 0

-- These bytes were written to a writer. Two proofs of that are the same.
pub record Wrote (old new : Output) (text : List ℕ) : Type 0 where
  pub bytes : Appends old.holds new.holds text

Appends-prop : (a b : Option (List ℕ)) (t : List ℕ) → IsProp (Appends a b t)
Appends-prop None b t = Unit-prop
Appends-prop (Some x) None t = ⊥_prop
Appends-prop (Some x) (Some y) t = Coded-set (coded_list coded_ℕ) y (x ++ t)

pub Wrote-prop : (old new : Output) (text : List ℕ) → IsProp (Wrote old new text)
Wrote-prop old new text p q = λ i. record { bytes = Appends-prop old.holds new.holds text p.bytes q.bytes i }
