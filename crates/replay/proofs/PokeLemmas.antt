-- The questions whose answer changes with a poke.
use Rattle.std.proofs.Common.{◌≡◌, ℕ, ◌+◌, ◌-◌, ◌<◌, ◌≤◌, List, ◌++◌, length, get_or, take, drop, ◌==◌, true, false, eqb-true, eq-eqb, ◌⊎◌, inl, inr, refl, ap, sym, ◌∙◌, arith, length-append, length-drop}
use Rattle.std.specs.Prelude.{slice_index}
use Rattle.std.proofs.Math.ListN.{get_or-append}
use Rattle.std.proofs.lemmas.List.{get_or-append-add, get_or-append_right, get_or-take, get_or-drop, length-take-le}
use Rattle.std.proofs.lemmas.Bool.{lt-ltb, le-ltb, cases_lt}
use Rattle.machine.specs.Image.{image_at}
use Rattle.machine.specs.Inputs.{Session}
use Rattle.machine.specs.PageZero.{page_zero}
use Rattle.machine.specs.Session.{written_over}
use Rattle.first_looks.specs.declared.question.Question.{Question}
use Rattle.first_looks.specs.declared.question.Question.TheVariants.{Cell, Script, Host as OfHost}
use Rattle.machine.specs.Machine.{session_answers}
use Rattle.first_looks.specs.FirstLooks.{FirstLooksView}
use Rattle.replay.specs.Edits.{with_poke}
use Rattle.replay.specs.Touch.{IsNotedTouch}
use Rattle.replay.proofs.LeastLemmas.{IsLeast, least_of_all}

-- ---- a list with other bytes written over it

module _ (p bytes : List ℕ) (at : ℕ) (h : at + length bytes ≤ length p) where
  front : length (take at p) ≡ at
  front = length-take-le at p (omega arith)

  upto : length (take at p ++ bytes) ≡ at + length bytes
  upto = let f = front in omega (arith, length-append (take at p) bytes)

  pub long_over : length (written_over p at bytes) ≡ length p
  long_over = let u = upto in omega (arith, length-append (take at p ++ bytes) (drop (at + length bytes) p), length-drop (at + length bytes) p)

  pub over_there : (i : ℕ) → i < length bytes → slice_index (written_over p at bytes) (at + i) ≡ slice_index bytes i
  over_there i k =
      get_or-append (take at p ++ bytes) (drop (at + length bytes) p) 0 (at + i) (let u = upto in omega arith)
      ∙ ap (λ n. get_or (take at p ++ bytes) (n + i) 0) (sym front)
      ∙ get_or-append-add (take at p) bytes i 0

  pub before_it : (i : ℕ) → i < at → slice_index (written_over p at bytes) i ≡ slice_index p i
  before_it i k =
      get_or-append (take at p ++ bytes) (drop (at + length bytes) p) 0 i (let u = upto in omega arith)
      ∙ get_or-append (take at p) bytes 0 i (let f = front in omega arith)
      ∙ get_or-take at p i 0 k

  pub past_it : (i : ℕ) → at + length bytes ≤ i → slice_index (written_over p at bytes) i ≡ slice_index p i
  past_it i k =
      get_or-append_right (take at p ++ bytes) (drop (at + length bytes) p) (at + length bytes) i 0 upto k
      ∙ get_or-drop (at + length bytes) p (i - (at + length bytes)) 0
      ∙ ap (λ n. get_or p n 0) (let e : at + length bytes + (i - (at + length bytes)) ≡ i = omega arith in e)

-- ---- the questions that a poke is about

-- The byte at an index of the program.
byte_there : (low program : List ℕ) (i : ℕ) → i < length program → image_at low program (256 + i) ≡ slice_index program i
byte_there low program i h =
    let inside : 256 + i < 256 + length program = omega arith in
    let place : 256 + i - 256 ≡ i = omega arith in
    rw (le-ltb (256 + i) 256 (omega arith), lt-ltb (256 + i) (256 + length program) inside, place) refl

-- The question is a cell of one of the first n bytes that are poked.
abbrev pub IsPoked : ℕ → ℕ → Question → Type 0
IsPoked at n q = (j : ℕ) × (j < n) × (q ≡ Cell (256 + (at + j)))

module _ (s : Session) (at : ℕ) (bytes : List ℕ) (h : at + length bytes ≤ length s.program) where
  pub old_byte : (i : ℕ) → i < length bytes → session_answers s (Cell (256 + (at + i))) ≡ slice_index s.program (at + i)
  old_byte i k = byte_there (page_zero s.tail) s.program (at + i) (omega arith)

  pub new_byte : (i : ℕ) → i < length bytes → session_answers (with_poke s at bytes) (Cell (256 + (at + i))) ≡ slice_index bytes i
  new_byte i k =
      byte_there (page_zero s.tail) (written_over s.program at bytes) (at + i) (omega (arith, long_over s.program bytes at h))
      ∙ over_there s.program bytes at h i k

  -- A cell whose byte of the program stays has the same answer.
  same_place : (a : ℕ) → (256 ≤ a → slice_index (written_over s.program at bytes) (a - 256) ≡ slice_index s.program (a - 256)) → session_answers s (Cell a) ≡ session_answers (with_poke s at bytes) (Cell a)
  same_place a same = elim (cases_lt a 256) [
    | inl low ↦ rw (lt-ltb a 256 low) refl
    | inr high ↦ rw (le-ltb a 256 high, long_over s.program bytes at h, same high) refl
  ]

  -- Every other question has the same answer as before.
  pub others_same : (q : Question) → IsPoked at (length bytes) q ⊎ (session_answers s q ≡ session_answers (with_poke s at bytes) q)
  others_same (Script k) = inr refl
  others_same (OfHost a) = inr refl
  others_same (Cell a) = elim (cases_lt a (256 + at)) [
    | inl low ↦ inr (same_place a (λ high. before_it s.program bytes at h (a - 256) (omega arith)))
    | inr from ↦ elim (cases_lt a (256 + (at + length bytes))) [
      | inl inside ↦ inl (a - 256 - at, omega arith, ap Cell (let e : a ≡ 256 + (at + (a - 256 - at)) = omega arith in e))
      | inr past ↦ inr (same_place a (λ high. past_it s.program bytes at h (a - 256) (omega arith)))
    ]
  ]

  pub poke_touched : (k : FirstLooksView) (t : ℕ) → IsLeast (IsPoked at (length bytes)) (session_answers s) (session_answers (with_poke s at bytes)) k t → IsNotedTouch (session_answers s) (session_answers (with_poke s at bytes)) k t
  poke_touched k t least = least_of_all (IsPoked at (length bytes)) (session_answers s) (session_answers (with_poke s at bytes)) k t least others_same

  -- A byte changes exactly if its answer changes.
  pub changes : (i : ℕ) → i < length bytes
      → ((slice_index s.program (at + i) == slice_index bytes i) ≡ true → session_answers s (Cell (256 + (at + i))) ≡ session_answers (with_poke s at bytes) (Cell (256 + (at + i))))
      × ((slice_index s.program (at + i) == slice_index bytes i) ≡ false → session_answers s (Cell (256 + (at + i))) ≡ session_answers (with_poke s at bytes) (Cell (256 + (at + i))) → ⊥)
  changes i k = (
    λ e. old_byte i k ∙ eqb-true _ _ e ∙ sym (new_byte i k),
    λ e same. let yes = eq-eqb (slice_index s.program (at + i)) (slice_index bytes i) (sym (old_byte i k) ∙ same ∙ new_byte i k) in let no : false ≡ true = sym e ∙ yes in cc,
  )

pub none_poked : (at : ℕ) (q : Question) → IsPoked at 0 q → ⊥
none_poked at q done = omega (arith, done.1)

pub one_more_poked : (at i : ℕ) (q : Question) → IsPoked at (i + 1) q → IsPoked at i q ⊎ (q ≡ Cell (256 + (at + i)))
one_more_poked at i q (j, below, is) = elim (cases_lt j i) [
  | inl low ↦ inl (j, low, is)
  | inr high ↦ inr (is ∙ ap (λ n. Cell (256 + (at + n))) (let e : j ≡ i = omega arith in e))
]
