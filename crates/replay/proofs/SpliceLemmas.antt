-- The questions whose answer changes with a splice of the script.
use Rattle.std.proofs.Common.{◌≡◌, ℕ, ◌+◌, ◌<◌, ◌≤◌, ◌==◌, cond, min, List, length, Option, Some, None, ◌⊎◌, inl, inr, refl, ap, sym, ◌∙◌, arith, eqb-true}
use Rattle.std.specs.Prelude.{slice_get, slice_index_or}
use Rattle.std.proofs.lemmas.Bool.{cases_lt, cases_Bool, lt-ltb, le-ltb}
use Rattle.std.proofs.lemmas.Grind.{common_steps}
use Rattle.std.proofs.lemmas.List.{get_or_past}
use Rattle.std.proofs.lemmas.Option.{gets}
use Rattle.first_looks.specs.FileSteps.{lesser_step}
use Rattle.machine.specs.Inputs.{Session}
use Rattle.first_looks.specs.declared.question.Question.{Question}
use Rattle.first_looks.specs.declared.question.Question.TheVariants.{Cell, Script, Host as OfHost}
use Rattle.machine.specs.Machine.{session_answers}
use Rattle.machine.specs.Session.{splice}
use Rattle.first_looks.specs.FirstLooks.{FirstLooksView, step_of}
use Rattle.machine.specs.FirstLooks.{IsFirstLooks}
use Rattle.first_looks.specs.FirstSteps.{step_in}
use Rattle.first_looks.specs.SequentialSteps.{IsEarliestFrom}
use Rattle.replay.specs.Edits.{with_splice}
use Rattle.replay.specs.Touch.{IsNotedTouch}
use Rattle.machine.proofs.FirstLemmas.{noted_below}
use Rattle.replay.proofs.LeastLemmas.{IsLeast, more_same, more_changed}

-- ---- a byte that stays

module _ (list bytes : List ℕ) (at removed : ℕ) (inside : at + removed ≤ length list) where
  pub stays_before : (k : ℕ) → k < at → slice_get list k ≡ slice_get (splice list at removed bytes) k
  stays_before k h = grind (arith, common_steps, gets)

  pub stays_behind : removed ≡ length bytes → (k : ℕ) → at + removed ≤ k → slice_get list k ≡ slice_get (splice list at removed bytes) k
  stays_behind same k h = grind (arith, common_steps, gets)

-- ---- the offsets that are visited

-- The question is an offset of the script between two offsets.
abbrev pub IsPlace : ℕ → ℕ → Question → Type 0
IsPlace from n q = (j : ℕ) × (from ≤ j) × (j < n) × (q ≡ Script j)

pub one_more_place : (from i : ℕ) (q : Question) → IsPlace from (i + 1) q → IsPlace from i q ⊎ (q ≡ Script i)
one_more_place from i q (j, later, below, is) = elim (cases_lt j i) [
  | inl low ↦ inl (j, later, low, is)
  | inr high ↦ inr (is ∙ ap Script (let e : j ≡ i = omega arith in e))
]

no_entry : (entries : List (Option ℕ)) (k m : ℕ) → length entries ≤ k → slice_index_or entries k None ≡ Some m → ⊥
no_entry entries k m past there = let none : slice_index_or entries k None ≡ None = get_or_past entries k None past in let both : None ≡ Some m = sym none ∙ there in cc

-- From n on, an offset with a step before t keeps its byte.
abbrev pub IsRestLater : Session → ℕ → ℕ → List ℕ → FirstLooksView → ℕ → ℕ → Type 0
IsRestLater s at removed bytes k n t = (j m : ℕ) → n ≤ j → step_in k.offsets j ≡ Some m → m < t → slice_get s.script j ≡ slice_get (splice s.script at removed bytes) j

module _ (s : Session) (at removed : ℕ) (bytes : List ℕ) (inside : at + removed ≤ length s.script) (k : FirstLooksView) (n t : ℕ) where
  -- From the end of the changes on, an offset keeps its byte or was looked at by no step.
  pub rest_unchanged : cond (removed == length bytes) (min (length k.offsets) (at + removed)) (length k.offsets) ≤ n → IsRestLater s at removed bytes k n t
  rest_unchanged all j m past there low = elim (cases_Bool (removed == length bytes)) [
    | inl same ↦
        let end : min (length k.offsets) (at + removed) ≤ n = rw same at all in
        elim (cases_lt j (length k.offsets)) [
          | inl looked ↦ stays_behind s.script bytes at removed inside (eqb-true removed (length bytes) same) j (omega arith)
          | inr beyond ↦ absurd (no_entry k.offsets j m beyond there)
        ]
    | inr other ↦
        let end : length k.offsets ≤ n = rw other at all in
        absurd (no_entry k.offsets j m (omega arith) there)
  ]

  -- An offset before the splice keeps its byte, and no other question has another answer.
  pub splice_touched : IsRestLater s at removed bytes k n t
      → IsLeast (IsPlace at n) (session_answers s) (session_answers (with_splice s at removed bytes)) k t → IsNotedTouch (session_answers s) (session_answers (with_splice s at removed bytes)) k t
  splice_touched rest least = record {
    within = least.within;
    below = below;
    here = least.here;
  } where
    below : (q : Question) (m : ℕ) → step_of k q ≡ Some m → m < t → session_answers s q ≡ session_answers (with_splice s at removed bytes) q
    below (Cell a) m there low = refl
    below (OfHost a) m there low = refl
    below (Script j) m there low = elim (cases_lt j at) [
      | inl before ↦ stays_before s.script bytes at removed inside j before
      | inr from ↦ elim (cases_lt j n) [
        | inl done ↦ least.below (Script j) m (j, from, done, refl) there low
        | inr past ↦ rest j m past there low
      ]
    ]

module _ (s : Session) (at removed : ℕ) (bytes : List ℕ) (k : FirstLooksView) (i t : ℕ) (least : IsLeast (IsPlace at i) (session_answers s) (session_answers (with_splice s at removed bytes)) k t) where
  -- One more offset, with the same byte.
  pub same_place : session_answers s (Script i) ≡ session_answers (with_splice s at removed bytes) (Script i) → IsLeast (IsPlace at (i + 1)) (session_answers s) (session_answers (with_splice s at removed bytes)) k t
  same_place = more_same (IsPlace at i) (IsPlace at (i + 1)) (session_answers s) (session_answers (with_splice s at removed bytes)) k (Script i) (one_more_place at i) t least

  -- One more offset, with another byte.
  pub changed_place : IsFirstLooks (session_answers s) k → (session_answers s (Script i) ≡ session_answers (with_splice s at removed bytes) (Script i) → ⊥)
      → IsLeast (IsPlace at (i + 1)) (session_answers s) (session_answers (with_splice s at removed bytes)) k (lesser_step (step_in k.offsets i) t)
  changed_place noted differs =
      more_changed (IsPlace at i) (IsPlace at (i + 1)) (session_answers s) (session_answers (with_splice s at removed bytes)) k (Script i) (one_more_place at i) t least differs (step_in k.offsets i) refl (noted_below (session_answers s) k noted (Script i))

lesser_low : (o : Option ℕ) (m t : ℕ) → o ≡ Some m → lesser_step o t ≤ m
lesser_low o m t e = rw e (elim (cases_lt m t) [ inl low ↦ rw (lt-ltb m t low) (omega arith) | inr high ↦ rw (le-ltb m t high) high ])

-- No offset past one whose byte changes has an earlier step, if the looks were in order.
pub rest_later : (s : Session) (at removed : ℕ) (bytes : List ℕ) (k : FirstLooksView) (place t : ℕ) → IsEarliestFrom k.offsets place → IsRestLater s at removed bytes k (place + 1) (lesser_step (step_in k.offsets place) t)
rest_later s at removed bytes k place t (m, here, later) j n behind there low =
    absurd (omega (arith, lesser_low (step_in k.offsets place) m t here, later j n (omega arith) there, low))
