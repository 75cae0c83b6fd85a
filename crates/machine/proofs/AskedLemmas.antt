-- Which questions the steps of a run asked, and by which step each was asked first.
use Rattle.std.proofs.Common.{◌≡◌, ℕ, zero, suc, ◌<◌, ◌≤◌, List, [], ◌∷◌, Option, Some, None, ◌⊎◌, inl, inr, refl, ap, subst, sym, ◌∙◌, arith, Bool, true, false, ◌&&◌, ◌==◌}
use Rattle.std.proofs.Math.Nat.{eq-or-lt_of_le}
use Rattle.std.proofs.Common.{eq-eqb, eqb-true}
use Rattle.std.proofs.lemmas.Bool.{or_cases, or_right}
use Rattle.first_looks.specs.declared.question.Question.{Question}
use Rattle.first_looks.specs.declared.question.Question.TheVariants.{Cell, Script, Host as OfHost}
use Rattle.std.specs.Ordering.{nat_cmp, eq_by_cmp}
use Rattle.std.specs.Cmp.{eq_by_cmp_equiv}
use Rattle.std.specs.Cmp.Lexicographic.{slice_cmp, nat_list_cmp_total}
use Rattle.hostfiles.proofs.Views.{same_key, key_of}
use Rattle.hostfiles.specs.Hosts.{Key}
use Rattle.hostfiles.specs.FileLooks.{is_same_ask}
use Rattle.hostfiles.specs.declared.looks.Ask.{Ask}
use Rattle.hostfiles.specs.declared.looks.Ask.TheVariants.{Has, Length, Rec, Directory}
use Rattle.machine.specs.Tree.{AgreeOn}
use Rattle.first_looks.specs.Questions.{is_in, same_question}
use Rattle.machine.specs.Machine.{Answers, looks}
use Rattle.first_looks.specs.FirstLooks.{or_else, step_if}
use Rattle.machine.specs.FirstLooks.{first_look}
use Rattle.machine.proofs.FirstLemmas.{first-suc, IsBelow, first_below}

key_itself : (key : Key) → eq_by_cmp (slice_cmp nat_cmp) key key ≡ true
key_itself key = (eq_by_cmp_equiv nat_list_cmp_total).refl key

same_ask_itself : (a : Ask) → is_same_ask a a ≡ true
same_ask_itself (Has key) = key_itself key
same_ask_itself (Length key) = key_itself key
same_ask_itself (Rec key k) = ap (λ b. b && k == k) (key_itself key) ∙ eq-eqb k k refl
same_ask_itself (Directory drive) = eq-eqb drive drive refl

both_true : (a b : Bool) → (a && b) ≡ true → (a ≡ true) × (b ≡ true)
both_true true b e = (refl, e)
both_true false b e = absurd (cc)

same_ask_is : (a b : Ask) → is_same_ask a b ≡ true → a ≡ b
same_ask_is (Has key) (Has other) e = ap Has (key_of same_key key other e)
same_ask_is (Has key) (Length other) e = absurd (cc)
same_ask_is (Has key) (Rec other j) e = absurd (cc)
same_ask_is (Has key) (Directory drive) e = absurd (cc)
same_ask_is (Length key) (Has other) e = absurd (cc)
same_ask_is (Length key) (Length other) e = ap Length (key_of same_key key other e)
same_ask_is (Length key) (Rec other j) e = absurd (cc)
same_ask_is (Length key) (Directory drive) e = absurd (cc)
same_ask_is (Rec key k) (Has other) e = absurd (cc)
same_ask_is (Rec key k) (Length other) e = absurd (cc)
same_ask_is (Rec key k) (Rec other j) e = let (keys, offsets) = both_true (eq_by_cmp (slice_cmp nat_cmp) key other) (k == j) e in λ i. Rec (key_of same_key key other keys i) (eqb-true k j offsets i)
same_ask_is (Rec key k) (Directory drive) e = absurd (cc)
same_ask_is (Directory drive) (Has other) e = absurd (cc)
same_ask_is (Directory drive) (Length other) e = absurd (cc)
same_ask_is (Directory drive) (Rec other j) e = absurd (cc)
same_ask_is (Directory drive) (Directory other) e = ap Directory (eqb-true drive other e)

pub same_itself : (q : Question) → same_question q q ≡ true
same_itself (Cell a) = eq-eqb a a refl
same_itself (Script k) = eq-eqb k k refl
same_itself (OfHost a) = same_ask_itself a

-- Two sessions agree on a list if they agree on each of its questions.
pub agree_each : (f g : Answers) (qs : List Question) → ((q : Question) → is_in q qs ≡ true → f q ≡ g q) → AgreeOn qs f g
agree_each f g [] h = tt
agree_each f g (x ∷ xs) h =
    (h x (rw (same_itself x) refl), agree_each f g xs (λ q i. h q (or_right (same_question q x) (is_in q xs) i)))

pub same_is : (q x : Question) → same_question q x ≡ true → q ≡ x
same_is (Cell a) (Cell b) e = ap Cell (eqb-true a b e)
same_is (Cell a) (Script k) e = cc
same_is (Script k) (Cell a) e = cc
same_is (Script k) (Script j) e = ap Script (eqb-true k j e)
same_is (Cell a) (OfHost b) e = absurd (cc)
same_is (Script k) (OfHost b) e = absurd (cc)
same_is (OfHost a) (Cell b) e = absurd (cc)
same_is (OfHost a) (Script k) e = absurd (cc)
same_is (OfHost a) (OfHost b) e = ap OfHost (same_ask_is a b e)

pub agree_at : (f g : Answers) (qs : List Question) (q : Question) → is_in q qs ≡ true → AgreeOn qs f g → f q ≡ g q
agree_at f g [] q i h = absurd (cc)
agree_at f g (x ∷ xs) q i h = elim (or_cases (same_question q x) (is_in q xs) i) [
  | inl e ↦ let P : Question → Type 0 = λ y. f y ≡ g y in subst P (sym (same_is q x e)) h.0
  | inr e ↦ agree_at f g xs q e h.1
]

noted_here : (n : ℕ) (a : Option ℕ) (b : Bool) → b ≡ true → IsBelow n a → (m : ℕ) × (or_else a (step_if b n) ≡ Some m) × (m ≤ n)
noted_here n None b e h = (n, rw e refl, omega arith)
noted_here n (Some m) b e h = (m, refl, omega (arith, h m refl))

-- A question that a step below n asks is noted at that step or before it.
pub noted_by : (f : Answers) (q : Question) (n i : ℕ) → i < n → is_in q (looks f i) ≡ true → (m : ℕ) × (first_look f q n ≡ Some m) × (m ≤ i)
noted_by f q zero i b h = absurd (omega arith)
noted_by f q (suc n) i b h = elim (eq-or-lt_of_le {n = i} {m = n} (omega arith)) [
  | inl e ↦
      let (m, at, low) = noted_here n (first_look f q n) (is_in q (looks f n)) (rw e at h) (first_below f q n) in
      (m, first-suc f q n ∙ at, omega arith)
  | inr l ↦ let (m, at, low) = noted_by f q n i l h in (m, first-suc f q n ∙ rw at refl, low)
]

marked_there : (n : ℕ) (a : Option ℕ) (b : Bool) (m : ℕ) → or_else a (step_if b n) ≡ Some m → (a ≡ Some m) ⊎ ((b ≡ true) × (n ≡ m))
marked_there n None true m e = inr (refl, (cc))
marked_there n None false m e = absurd (cc)
marked_there n (Some x) b m e = inl e

-- The noted step of a question asks it.
pub asked_there : (f : Answers) (q : Question) (n m : ℕ) → first_look f q n ≡ Some m → is_in q (looks f m) ≡ true
unfolding first_look
asked_there f q zero m e = absurd (cc)
asked_there f q (suc n) m e = elim (marked_there n (first_look f q n) (is_in q (looks f n)) m e) [
  | inl h ↦ asked_there f q n m h
  | inr h ↦ rw h.1 at h.0
]
