-- The table of first looks, as it grows and is erased.
use Rattle.std.proofs.Common.{ap, sym, ◌≡◌, ℕ, zero, suc, ◌<◌, ◌≤◌, refl, ◌∙◌, arith, Bool, true, false, List, [], Option, Some, None, inl, inr}
use Rattle.std.specs.Prelude.{slice_index_or}
use Rattle.std.proofs.lemmas.Bool.{lt-ltb}
use Rattle.std.proofs.lemmas.Bool.Decides.{nat_tests}
use Rattle.std.proofs.Math.Nat.{eq-or-lt_of_le}
use Rattle.hostfiles.specs.declared.looks.Ask.{Ask}
use Rattle.first_looks.specs.FileSteps.{step_of_ask}
use Rattle.first_looks.specs.declared.question.Question.{Question}
use Rattle.first_looks.specs.declared.question.Question.TheVariants.{Cell, Script, Host as OfHost}
use Rattle.machine.specs.Tree.{AgreeOn}
use Rattle.machine.specs.Dependence as dependence
use Rattle.machine.proofs.DependenceLemmas as lemmas
use Rattle.machine.specs.StateView.{PartialState}
use Rattle.machine.specs.Step.{next}
use Rattle.first_looks.specs.Questions.{is_in}
use Rattle.machine.specs.Machine.{Answers, session_tree, outcome_with, start, looks_at, looks, after}
use Rattle.first_looks.specs.FirstLooks.{FirstLooksView, or_else, step_if, step_below, step_of}
use Rattle.machine.specs.FirstLooks.{first_look, IsFirstLooks}

-- A step in an entry is below n.
abbrev pub IsBelow : ℕ → Option ℕ → Type 0
IsBelow n o = (m : ℕ) → o ≡ Some m → m < n

below_mark : (n : ℕ) (b : Bool) → IsBelow (suc n) (step_if b n)
below_mark n true = λ m e. let k : n ≡ m = cc in omega arith
below_mark n false = λ m e. cc

below_or : (n : ℕ) (a b : Option ℕ) → IsBelow n a → IsBelow (suc n) b → IsBelow (suc n) (or_else a b)
below_or n None b h k = k
below_or n (Some x) b h k = λ m e. let l : m < n = h m e in omega arith

pub first_below : (f : Answers) (q : Question) (n : ℕ) → IsBelow n (first_look f q n)
unfolding first_look
first_below f q zero = λ m e. cc
first_below f q (suc n) = below_or n (first_look f q n) (step_if (is_in q (looks f n)) n) (first_below f q n) (below_mark n (is_in q (looks f n)))

erased_below : (t : ℕ) (o : Option ℕ) → IsBelow t o → step_below t o ≡ o
erased_below t None h = refl
erased_below t (Some m) h = rw (lt-ltb m t (h m refl)) refl

erased_mark : (t n : ℕ) (b : Bool) → t ≤ n → step_below t (step_if b n) ≡ None
erased_mark t n true h = grind (arith, nat_tests)
erased_mark t n false h = refl

erased_or : (t n : ℕ) (a : Option ℕ) (b : Bool) → t ≤ n → step_below t (or_else a (step_if b n)) ≡ step_below t a
erased_or t n None b h = erased_mark t n b h
erased_or t n (Some m) b h = refl

pub erased_same : (f : Answers) (q : Question) (n : ℕ) → step_below n (first_look f q n) ≡ first_look f q n
erased_same f q n = erased_below n (first_look f q n) (first_below f q n)

pub erased_first : (f : Answers) (q : Question) (t n : ℕ) → t ≤ n → step_below t (first_look f q n) ≡ first_look f q t
unfolding first_look
erased_first f q t zero h = let e : t ≡ zero = omega arith in rw e refl
erased_first f q t (suc n) h =
    elim (eq-or-lt_of_le {n = t} {m = suc n} h) [
      | inl e ↦ rw e (erased_same f q (suc n))
      | inr l ↦ let k : t ≤ n = omega arith in erased_or t n (first_look f q n) (is_in q (looks f n)) k ∙ erased_first f q t n k
    ]

pub first-suc : (f : Answers) (q : Question) (n : ℕ) → first_look f q (suc n) ≡ or_else (first_look f q n) (step_if (is_in q (looks f n)) n)
unfolding first_look
first-suc f q n = refl

pub same_after : (f g : Answers) (n : ℕ) → ((i : ℕ) → i < n → AgreeOn (looks f i) f g) → after g n ≡ after f n
same_after = lemmas.same_after session_tree (λ (st : PartialState). st.own) (λ (st : PartialState). next st.core) outcome_with start

pub same_looks : (f g : Answers) (n : ℕ) → ((i : ℕ) → i < n → AgreeOn (looks f i) f g) → AgreeOn (looks f n) f g → looks g n ≡ looks f n
same_looks = lemmas.same_looks session_tree (λ (st : PartialState). st.own) (λ (st : PartialState). next st.core) outcome_with start

-- If two sessions agree on the looks of the steps below n, they have the same first looks below n.
pub same_first : (f g : Answers) (q : Question) (n : ℕ) → ((i : ℕ) → i < n → AgreeOn (looks f i) f g) → first_look g q n ≡ first_look f q n
unfolding first_look
same_first f g q zero h = refl
same_first f g q (suc n) h =
    rw (same_first f g q n (λ i k. h i (omega arith)), same_looks f g n (λ i k. h i (omega arith)) (h n (omega arith))) refl

pub looks_here : (f : Answers) (n : ℕ) (st : PartialState) → after f n ≡ Some st → looks f n ≡ looks_at f st
unfolding dependence.looks
looks_here f n st a = ap (λ (o : Option PartialState). dependence.looks_if_any session_tree (λ (st : PartialState). st.own) (λ (st : PartialState). next st.core) outcome_with start f o) a

-- Nothing is noted, and no step is seen.
pub record IsEmpty (looks : FirstLooksView) : Type 0 where
  pub cells : looks.cells ≡ []
  pub offsets : looks.offsets ≡ []
  pub files : (a : Ask) → step_of_ask looks.files a ≡ None
  pub seen : looks.seen ≡ 0

pub nothing_noted : (f : Answers) (looks : FirstLooksView) → IsEmpty looks → IsFirstLooks f looks
unfolding first_look
nothing_noted f looks e = record { entry = λ q. empty q ∙ ap (first_look f q) (sym e.seen) }
  where
    empty : (q : Question) → step_of looks q ≡ None
    empty (Cell a) = ap (λ (steps : List (Option ℕ)). slice_index_or steps a None) e.cells
    empty (Script k) = ap (λ (steps : List (Option ℕ)). slice_index_or steps k None) e.offsets
    empty (OfHost a) = e.files a

-- A failed note leaves a table of first looks.
pub erased_known : (f : Answers) (old new : FirstLooksView) → IsFirstLooks f old → ((q : Question) → step_of new q ≡ step_below old.seen (step_of old q)) → new.seen ≡ old.seen → IsFirstLooks f new
erased_known f old new known steps seen = record { entry = λ q. rw (seen, steps q, known.entry q) (erased_same f q old.seen) }

-- The noted step of a question is below `seen`.
pub noted_below : (f : Answers) (k : FirstLooksView) → IsFirstLooks f k → (q : Question) (m : ℕ) → step_of k q ≡ Some m → m < k.seen
noted_below f k known q m e = first_below f q k.seen m (sym (known.entry q) ∙ e)
