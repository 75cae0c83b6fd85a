-- The looks of a step are noted, and steps that look at nothing new are passed.
use Rattle.std.proofs.Common.{◌≡◌, ℕ, zero, suc, ◌+◌, ◌-◌, ◌<◌, ◌≤◌, Bool, true, false, ◌||◌, length, take, drop, take-append-drop, Option, Some, None, inl, inr, refl, ap, sym, ◌∙◌, subst, arith, add-one}
use Rattle.std.proofs.lemmas.Bool.{or_cases}
use Rattle.machine.proofs.LookLemmas.{is_among-append}
use Rattle.machine.specs.Memory.{is_among}
use Rattle.machine.specs.ScriptLooks.{is_within}
use Rattle.hostfiles.specs.FileLooks.{is_looked}
use Rattle.machine.specs.StateView.{AllLooks}
use Rattle.first_looks.specs.declared.question.Question.{Question}
use Rattle.first_looks.specs.declared.question.Question.TheVariants.{Cell, Script, Host as OfHost}
use Rattle.first_looks.specs.Questions.{is_in}
use Rattle.machine.specs.Machine.{Answers, is_looked_at, HasNoLooks, HasNoQuestions, looks_from, KeepsLooks, AddsLooks, looks}
use Rattle.first_looks.specs.FirstLooks.{FirstLooksView, step_of, or_else, step_if, with_seen}
use Rattle.machine.specs.FirstLooks.{first_look, IsFirstLooks, AllNoted, NotesSeenStep}
use Rattle.machine.specs.Stretch.{LooksAtNothingNew}
use Rattle.machine.proofs.FirstLemmas.{first-suc}
use Rattle.machine.proofs.AskedLemmas.{noted_by}

-- Noting the new looks alone has the same result as noting all.
same_mark : (o : Option ℕ) (before more all asked : Bool) (n : ℕ) → (before ≡ true → o ≡ None → ⊥) → all ≡ (before || more) → all ≡ (before || asked) → or_else o (step_if more n) ≡ or_else o (step_if asked n)
same_mark (Some m) before more all asked n known e f = refl
same_mark None true more all asked n known e f = absurd (known refl refl)
same_mark None false more all asked n known e f = ap (λ b. step_if b n) (sym e ∙ f)

-- A question that was looked at has an entry afterwards.
has_entry : (o : Option ℕ) (before more all : Bool) (n : ℕ) → (before ≡ true → o ≡ None → ⊥) → all ≡ (before || more) → all ≡ true → or_else o (step_if more n) ≡ None → ⊥
has_entry (Some m) before more all n known e h none = cc
has_entry None true more all n known e h none = known refl refl
has_entry None false true all n known e h none = cc
has_entry None false false all n known e h none = cc

-- If nothing was looked at, there is nothing to note.
pub none_looked : (noted : FirstLooksView) (looked : AllLooks) → HasNoLooks looked → AllNoted noted looked
none_looked noted looked none (Cell a) asked o = let no : is_among a looked.cells ≡ false = rw none.cells refl in absurd (let both : false ≡ true = sym no ∙ asked in cc)
none_looked noted looked none (Script k) asked o = absurd (let both : false ≡ true = sym (none.questions.offsets k) ∙ asked in cc)
none_looked noted looked none (OfHost a) asked o = absurd (let both : false ≡ true = sym (none.questions.files a) ∙ asked in cc)

module _ (f : Answers) (old new : FirstLooksView) (n : ℕ) (looked after_step left : AllLooks) (known : IsFirstLooks f old) (all : AllNoted old looked)
    (extends : KeepsLooks looked after_step) (asks : AddsLooks looked (looks f n) after_step) (same_cells : left.cells ≡ after_step.cells) (none : HasNoQuestions left) where
  or_both : (a b : Bool) → (a ≡ true → b ≡ true) → b ≡ (a || b)
  or_both true b h = h refl
  or_both false b h = refl

  -- The looks are the earlier ones and the new ones.
  more_looked : (q : Question) → is_looked_at after_step q ≡ (is_looked_at looked q || is_looked_at (looks_from (length looked.cells) after_step) q)
  more_looked (Cell a) =
      ap (is_among a) (sym (take-append-drop (length looked.cells) after_step.cells))
      ∙ is_among-append a (take (length looked.cells) after_step.cells) (drop (length looked.cells) after_step.cells)
      ∙ ap (λ cells. is_among a cells || is_among a (drop (length looked.cells) after_step.cells)) extends.cells
  more_looked (Script k) = or_both (is_within looked.offsets k) (is_within after_step.offsets k) (extends.offsets k)
  more_looked (OfHost a) = or_both (is_looked looked.files a) (is_looked after_step.files a) (extends.files.kept a)

  -- No offset and no question is left, so the looks that are left are among the looks of the step.
  left_looked : (q : Question) → is_looked_at left q ≡ true → is_looked_at after_step q ≡ true
  left_looked (Cell a) e = ap (is_among a) (sym same_cells) ∙ e
  left_looked (Script k) e = absurd (let both : false ≡ true = sym (none.offsets k) ∙ e in cc)
  left_looked (OfHost a) e = absurd (let both : false ≡ true = sym (none.files a) ∙ e in cc)

  -- The step was seen before.
  pub seen_before : n < old.seen → AllNoted old left
  seen_before below q asked nothing = elim (or_cases (is_looked_at looked q) (is_in q (looks f n)) (sym (asks q) ∙ left_looked q asked)) [
    | inl h ↦ all q h nothing
    | inr h ↦ asked_here q h nothing
  ]
    where
      asked_here : (q : Question) → is_in q (looks f n) ≡ true → step_of old q ≡ None → ⊥
      asked_here q asked nothing =
          let (m, there, low) = noted_by f q old.seen n below asked in
          let e : Some m ≡ None = sym there ∙ sym (known.entry q) ∙ nothing in cc

  -- The step is noted now.
  pub seen_now : n ≡ old.seen → NotesSeenStep old new (looks_from (length looked.cells) after_step) → IsFirstLooks f new × AllNoted new left
  seen_now here now = (
    record { entry = λ q. entry q ∙ sym (ap (first_look f q) now.seen ∙ ap (first_look f q) (add-one old.seen)) },
    λ q asked nothing. has_entry (step_of old q) (is_looked_at looked q) (is_looked_at (looks_from (length looked.cells) after_step) q) (is_looked_at after_step q) old.seen (λ e o. all q e o) (more_looked q) (left_looked q asked) (sym (now.entries q) ∙ nothing),
  ) where
    entry : (q : Question) → step_of new q ≡ first_look f q (suc old.seen)
    entry q =
        now.entries q
        ∙ same_mark (step_of old q) (is_looked_at looked q) (is_looked_at (looks_from (length looked.cells) after_step) q) (is_looked_at after_step q) (is_in q (looks f n)) old.seen (λ e o. all q e o) (more_looked q) (asks q)
        ∙ ap (λ o. or_else o (step_if (is_in q (looks f n)) old.seen)) (known.entry q)
        ∙ ap (λ (k : ℕ). or_else (first_look f q old.seen) (step_if (is_in q (looks f k)) old.seen)) here
        ∙ sym (first-suc f q old.seen)

-- ---- steps that look at nothing new

kept_by : (o : Option ℕ) (b : Bool) (n : ℕ) → (b ≡ true → o ≡ None → ⊥) → or_else o (step_if b n) ≡ o
kept_by (Some m) b n h = refl
kept_by None true n h = absurd (h refl refl)
kept_by None false n h = refl

-- Steps that look at nothing new have no first look.
same_first_looks : (f : Answers) (t : FirstLooksView) (looked : AllLooks) (q : Question) → IsFirstLooks f t → AllNoted t looked → (k : ℕ) → LooksAtNothingNew f looked t.seen (t.seen + k) → first_look f q (t.seen + k) ≡ first_look f q t.seen
same_first_looks f t looked q known all zero quiet = ap (first_look f q) (omega arith)
same_first_looks f t looked q known all (suc k) quiet =
    let rest : first_look f q (t.seen + k) ≡ first_look f q t.seen = same_first_looks f t looked q known all k (λ i low high. quiet i low (omega arith)) in
    ap (first_look f q) (let e : t.seen + suc k ≡ suc (t.seen + k) = omega arith in e)
    ∙ first-suc f q (t.seen + k)
    ∙ kept_by (first_look f q (t.seen + k)) (is_in q (looks f (t.seen + k))) (t.seen + k) (λ asked none. all q (quiet (t.seen + k) (omega arith) (omega arith) q asked) (known.entry q ∙ sym rest ∙ none))
    ∙ rest

pub passed : (f : Answers) (t : FirstLooksView) (looked : AllLooks) → IsFirstLooks f t → AllNoted t looked → (upto : ℕ) → t.seen ≤ upto → LooksAtNothingNew f looked t.seen upto → IsFirstLooks f (with_seen t upto)
passed f t looked known all upto high quiet = record {
  entry = λ q.
      let e : t.seen + (upto - t.seen) ≡ upto = omega arith in
      known.entry q ∙ sym (same_first_looks f t looked q known all (upto - t.seen) (subst (λ (k : ℕ). LooksAtNothingNew f looked t.seen k) (sym e) quiet)) ∙ ap (first_look f q) e;
}
