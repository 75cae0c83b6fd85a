-- A text written in pieces, and what was written of a text of which a prefix was pushed.
use Rattle.std.proofs.Common.{◌≡◌, ℕ, List, [], ◌++◌, length, take, Result, Ok, Err, refl, sym, ap, ◌∙◌, subst, inl, inr, le_of_lt}
use Rattle.std.proofs.lemmas.Bool.{cases_lt}
use Rattle.std.proofs.lemmas.List.{take-append-le, take_all}
use Rattle.std.proofs.Math.Seq.{take-append_seam}
use Rattle.std.specs.Io.KnownBytes.{Appends}
use Rattle.std.proofs.KnownBytes.{Appends-nil, Appends-trans}
use Rattle.streams.specs.Pushing.{Pushed, PushesPart}
use Rattle.streams.specs.Streams.{Output, WritesWhole, WritesPart, WritesText, WritesOrFails}

-- A prefix of a text is a prefix of a longer text.
first_part : (n : ℕ) (x y : List ℕ) → (m : ℕ) × (take m (x ++ y) ≡ take n x)
first_part n x y = elim (cases_lt n (length x)) [
  | inl below ↦ (n, take-append-le n x y (le_of_lt below))
  | inr past ↦ (length x, take-append_seam x y ∙ sym (take_all n x past))
]

-- What was pushed onto an empty text, and what is left.
split_of : {old new : Pushed} {text : List ℕ} → old.text ≡ [] → (p : PushesPart old new text) → new.text ++ p.rest ≡ text
split_of {text = text} none p = ap (λ q. q.text) p.split ∙ ap (λ t. t ++ text) none

-- A prefix of what was pushed was written, or all of it.
module _ {old new last : Pushed} {text : List ℕ} (none : old.text ≡ []) (p : PushesPart old new text) (same : last ≡ new) where
  start : last.start ≡ old.start
  start = ap (λ q. q.start) same ∙ ap (λ q. q.start) p.split

  pub part_written : {b : Output} → WritesPart last.start b last.text → WritesPart old.start b text
  part_written {b = b} w =
      let m = first_part w.count last.text p.rest in
      let whole = ap (λ q. q.text ++ p.rest) same ∙ split_of none p in
      subst (λ a. WritesPart a b text) start
      (record { count = m.0; bytes = subst (Appends last.start.holds b.holds) (sym m.1 ∙ ap (take m.0) whole) w.bytes; failures = w.failures })

  pub all_written : {b : Output} → WritesWhole last.start b last.text → (count : ℕ) × WritesWhole old.start b (take count text)
  all_written {b = b} w =
      let whole = ap (λ q. q.text ++ p.rest) same ∙ split_of none p in (
        length last.text,
        subst (λ a. WritesWhole a b (take (length last.text) text)) start
            (subst (WritesWhole last.start b) (sym (take-append_seam last.text p.rest) ∙ ap (take (length last.text)) whole) w),
      )

-- No text was written.
pub whole_nil : (a : Output) → WritesWhole a a []
whole_nil a = record { bytes = Appends-nil a.holds; failures = refl }

-- One text was written, and then another.
pub whole_then : {a b c : Output} (x y : List ℕ) → WritesWhole a b x → WritesWhole b c y → WritesWhole a c (x ++ y)
whole_then x y p q = record { bytes = Appends-trans _ _ _ x y p.bytes q.bytes; failures = q.failures ∙ p.failures }

-- A failure that is ignored.
pub writes_or_fails : {T E : Type 0} (a b : Output) (x : List ℕ) (r : Result T E) → WritesText a b x r → WritesOrFails a b x
writes_or_fails a b x (Ok u) w = inl w
writes_or_fails a b x (Err e) w = inr w
