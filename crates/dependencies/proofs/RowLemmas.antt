-- Rows of indexes that have steps.
use Rattle.std.proofs.Common.{◌≡◌, ℕ, ◌+◌, ◌<◌, ◌≤◌, ◌==◌, ◌&&◌, true, false, min, cond, List, [], ◌∷◌, drop, length, Option, Some, None, inl, inr, refl, sym, ap, ◌∙◌, arith}
use Rattle.std.specs.Prelude.{⊤}
use Rattle.std.proofs.lemmas.Bool.{cases_lt, eq-eqb, ne_eqb, eqb-true, lt-ltb, le-ltb, and_left, and_right, and_from, and_parts, true≢false}
use Rattle.std.proofs.lemmas.List.{drop_more, drop_all}
use Rattle.first_looks.specs.FirstSteps.{step_in}
use Rattle.dependencies.specs.Rows.{IsFirstRow, earlier, joins, row, before_rows, rows_of, rows_from}
use Rattle.dependencies.specs.declared.rows.Row.{Row}
use Rattle.dependencies.specs.declared.rows.Joining.{Joining}
use Rattle.dependencies.specs.declared.rows.Joining.TheVariants.{Joined, ByStep}

-- ---- the lesser of two steps

lower : (m n : ℕ) → m < n → earlier m n ≡ m
lower m n l = ap (λ b. cond b m n) (lt-ltb m n l)

higher : (m n : ℕ) → n ≤ m → earlier m n ≡ n
higher m n l = ap (λ b. cond b m n) (le-ltb m n l)

pub earlier_is_min : (m n s : ℕ) → s ≡ min m n → s ≡ earlier m n
earlier_is_min m n s e = elim (cases_lt m n) [
  | inl l ↦ let a = lower m n l in omega (arith, a, l, e)
  | inr l ↦ let a = higher m n l in omega (arith, a, l, e)
]

earlier_same : (m n : ℕ) → m ≡ n → earlier m n ≡ n
earlier_same m n e = higher m n (omega (arith, e))

least_of_three : (l m n : ℕ) → earlier l (earlier m n) ≡ earlier (earlier l m) n
least_of_three l m n = elim (cases_lt m n) [
  | inl mn ↦ elim (cases_lt l m) [
    | inl lm ↦ ap (earlier l) (lower m n mn) ∙ lower l m lm ∙ sym (ap (λ k. earlier k n) (lower l m lm) ∙ lower l n (omega (arith, lm, mn)))
    | inr lm ↦ ap (earlier l) (lower m n mn) ∙ higher l m lm ∙ sym (ap (λ k. earlier k n) (higher l m lm) ∙ lower m n mn)
  ]
  | inr mn ↦ elim (cases_lt l m) [
    | inl lm ↦ ap (earlier l) (higher m n mn) ∙ sym (ap (λ k. earlier k n) (lower l m lm))
    | inr lm ↦ ap (earlier l) (higher m n mn) ∙ higher l n (omega (arith, lm, mn)) ∙ sym (ap (λ k. earlier k n) (higher l m lm) ∙ higher m n mn)
  ]
]

-- ---- rows before others

-- The first of some rows begins at k or behind it.
abbrev pub BeginsFrom : ℕ → List Row → Type 0
BeginsFrom k [] = ⊤
BeginsFrom k (q ∷ qs) = k ≤ q.first

before_begins : (joining : Joining) (r : Row) (qs : List Row) → BeginsFrom r.first (before_rows joining r qs)
before_begins joining r [] = omega arith
before_begins joining r (q ∷ qs) = elim (q.first == r.end && joins joining r.step q.step)
    as (λ b. BeginsFrom r.first (cond b (row r.first q.end (earlier r.step q.step) ∷ qs) (r ∷ q ∷ qs))) [
      | true ↦ omega arith
      | false ↦ omega arith
    ]

later : (k : ℕ) (qs : List Row) → BeginsFrom (k + 1) qs → BeginsFrom k qs
later k [] h = h
later k (q ∷ qs) h = omega (arith, h)

pub begins : (joining : Joining) (k : ℕ) (steps : List (Option ℕ)) → BeginsFrom k (rows_of joining k steps)
begins joining k [] = tt
begins joining k (None ∷ steps) = later k (rows_of joining (k + 1) steps) (begins joining (k + 1) steps)
begins joining k (Some n ∷ steps) = before_begins joining (row k (k + 1) n) (rows_of joining (k + 1) steps)

-- A row is not joined with rows that begin further behind it.
pub apart : (joining : Joining) (r : Row) (k : ℕ) (qs : List Row) → r.end < k → BeginsFrom k qs → before_rows joining r qs ≡ r ∷ qs
apart joining r k [] far h = refl
apart joining r k (q ∷ qs) far h =
    ap (λ b. cond b (row r.first q.end (earlier r.step q.step) ∷ qs) (r ∷ q ∷ qs))
    (and_left (q.first == r.end) (joins joining r.step q.step) (ne_eqb q.first r.end (λ e. absurd (omega (arith, e, far, h)))))

-- A row is not joined with a row of another step.
pub unjoined : (joining : Joining) (r : Row) (k m : ℕ) (qs : List Row) → joins joining r.step m ≡ false
    → before_rows joining r (before_rows joining (row k (k + 1) m) qs) ≡ r ∷ before_rows joining (row k (k + 1) m) qs
unjoined Joined r k m qs other = absurd (true≢false other)
unjoined ByStep r k m [] other =
    ap (λ b. cond b (row r.first (k + 1) (earlier r.step m) ∷ []) (r ∷ row k (k + 1) m ∷ [])) (and_right (k == r.end) (r.step == m) other)
unjoined ByStep r k m (q ∷ qs) other = elim (q.first == k + 1 && (m == q.step))
    as (λ b. (q.first == k + 1 && (m == q.step)) ≡ b → before_rows ByStep r (cond b (row k q.end (earlier m q.step) ∷ qs) (row k (k + 1) m ∷ q ∷ qs)) ≡ r ∷ cond b (row k q.end (earlier m q.step) ∷ qs) (row k (k + 1) m ∷ q ∷ qs)) [
      | true ↦ λ e. let same : m ≡ q.step = eqb-true m q.step ((and_parts (q.first == k + 1) (m == q.step) e).1) in
          ap (λ b. cond b (row r.first q.end (earlier r.step (earlier m q.step)) ∷ qs) (r ∷ row k q.end (earlier m q.step) ∷ qs))
          (and_right (k == r.end) (r.step == earlier m q.step) (ap (λ n. r.step == n) (earlier_same m q.step same ∙ sym same) ∙ other))
      | false ↦ λ e. ap (λ b. cond b (row r.first (k + 1) (earlier r.step m) ∷ q ∷ qs) (r ∷ row k (k + 1) m ∷ q ∷ qs)) (and_right (k == r.end) (r.step == m) other)
    ] refl

-- A step that joins another one joins the same as that one does, and the lesser of the two likewise.
joins_same : (joining : Joining) (n m s : ℕ) → joins joining n m ≡ true → joins joining (earlier n m) s ≡ joins joining m s
joins_same Joined n m s h = refl
joins_same ByStep n m s h = ap (λ k. k == s) (earlier_same n m (eqb-true n m h))

joins_all : (joining : Joining) (n m s : ℕ) → joins joining n m ≡ true → joins joining m s ≡ true → joins joining n (earlier m s) ≡ true
joins_all Joined n m s h more = refl
joins_all ByStep n m s h more = let e = eqb-true n m h in let f = eqb-true m s more in let g = earlier_same m s f in eq-eqb n (earlier m s) (omega (arith, e, f, g))

-- A row grows by the next index, whose step joins.
pub longer : (joining : Joining) (r : Row) (k m : ℕ) (qs : List Row) → r.end ≡ k → joins joining r.step m ≡ true
    → before_rows joining r (before_rows joining (row k (k + 1) m) qs) ≡ before_rows joining (row r.first (k + 1) (earlier r.step m)) qs
longer joining r k m [] at joined =
    ap (λ b. cond b (row r.first (k + 1) (earlier r.step m) ∷ []) (r ∷ row k (k + 1) m ∷ [])) (and_from (k == r.end) (joins joining r.step m) (eq-eqb k r.end (sym at)) joined)
longer joining r k m (q ∷ qs) at joined = elim (q.first == k + 1 && joins joining m q.step)
    as (λ b. (q.first == k + 1 && joins joining m q.step) ≡ b
    → before_rows joining r (cond b (row k q.end (earlier m q.step) ∷ qs) (row k (k + 1) m ∷ q ∷ qs)) ≡ before_rows joining (row r.first (k + 1) (earlier r.step m)) (q ∷ qs)) [
      | true ↦ λ e. let parts = and_parts (q.first == k + 1) (joins joining m q.step) e in
          ap (λ b. cond b (row r.first q.end (earlier r.step (earlier m q.step)) ∷ qs) (r ∷ row k q.end (earlier m q.step) ∷ qs))
          (and_from (k == r.end) (joins joining r.step (earlier m q.step)) (eq-eqb k r.end (sym at)) (joins_all joining r.step m q.step joined parts.1))
          ∙ ap (λ s. row r.first q.end s ∷ qs) (least_of_three r.step m q.step)
          ∙ sym (ap (λ b. cond b (row r.first q.end (earlier (earlier r.step m) q.step) ∷ qs) (row r.first (k + 1) (earlier r.step m) ∷ q ∷ qs))
          (ap (λ b. q.first == k + 1 && b) (joins_same joining r.step m q.step joined) ∙ e))
      | false ↦ λ e.
          ap (λ b. cond b (row r.first (k + 1) (earlier r.step m) ∷ q ∷ qs) (r ∷ row k (k + 1) m ∷ q ∷ qs)) (and_from (k == r.end) (joins joining r.step m) (eq-eqb k r.end (sym at)) joined)
          ∙ sym (ap (λ b. cond b (row r.first q.end (earlier (earlier r.step m) q.step) ∷ qs) (row r.first (k + 1) (earlier r.step m) ∷ q ∷ qs))
          (ap (λ b. q.first == k + 1 && b) (joins_same joining r.step m q.step joined) ∙ e))
    ] refl

-- ---- the rows from an index on

-- No index past the last one is in a row.
pub none_past : (joining : Joining) (entries : List (Option ℕ)) (k : ℕ) → length entries ≤ k → rows_from joining entries k ≡ []
none_past joining entries k past = ap (rows_of joining k) (drop_all k entries past)

-- An index without a step begins no row.
pub past_none : (joining : Joining) (entries : List (Option ℕ)) (k : ℕ) → k < length entries → step_in entries k ≡ None → rows_from joining entries k ≡ rows_from joining entries (k + 1)
past_none joining entries k below none = ap (rows_of joining k) (drop_more entries k None below ∙ ap (λ e. e ∷ drop (k + 1) entries) none)

-- An index with a step is a row before the others.
pub at_some : (joining : Joining) (entries : List (Option ℕ)) (k n : ℕ) → k < length entries → step_in entries k ≡ Some n
    → rows_from joining entries k ≡ before_rows joining (row k (k + 1) n) (rows_from joining entries (k + 1))
at_some joining entries k n below some = ap (rows_of joining k) (drop_more entries k None below ∙ ap (λ e. e ∷ drop (k + 1) entries) some)

-- ---- the row that begins at an index

module _ (joining : Joining) (entries : List (Option ℕ)) (r : Row) where
  -- A row is the first one, if nothing behind it joins it.
  pub ended : (first : ℕ) → rows_from joining entries first ≡ before_rows joining r (rows_from joining entries r.end) → first < r.end → r.end ≤ length entries
      → before_rows joining r (rows_from joining entries r.end) ≡ r ∷ rows_from joining entries r.end → IsFirstRow joining entries first r
  ended first left low within alone = record { first = left ∙ alone; from_on = low; within = within }

  pub alone_past : length entries ≤ r.end → before_rows joining r (rows_from joining entries r.end) ≡ r ∷ rows_from joining entries r.end
  alone_past past = let none = none_past joining entries r.end past in ap (before_rows joining r) none ∙ ap (λ qs. r ∷ qs) (sym none)

  pub alone_none : r.end < length entries → None ≡ step_in entries r.end → before_rows joining r (rows_from joining entries r.end) ≡ r ∷ rows_from joining entries r.end
  alone_none below none =
      let next = past_none joining entries r.end below (sym none) in
      ap (before_rows joining r) next
      ∙ apart joining r (r.end + 1) (rows_from joining entries (r.end + 1)) (omega arith) (begins joining (r.end + 1) (drop (r.end + 1) entries))
      ∙ ap (λ qs. r ∷ qs) (sym next)

  pub alone_other : (m : ℕ) → r.end < length entries → Some m ≡ step_in entries r.end → false ≡ joins joining r.step m
      → before_rows joining r (rows_from joining entries r.end) ≡ r ∷ rows_from joining entries r.end
  alone_other m below some other =
      let here = at_some joining entries r.end m below (sym some) in
      ap (before_rows joining r) here ∙ unjoined joining r r.end m (rows_from joining entries (r.end + 1)) (sym other) ∙ ap (λ qs. r ∷ qs) (sym here)

  -- The row has one more index.
  pub grown : (first m s : ℕ) → rows_from joining entries first ≡ before_rows joining r (rows_from joining entries r.end) → r.end < length entries → Some m ≡ step_in entries r.end
      → true ≡ joins joining r.step m → s ≡ min r.step m → rows_from joining entries first ≡ before_rows joining (row r.first (r.end + 1) s) (rows_from joining entries (r.end + 1))
  grown first m s left below some joined least =
      left ∙ ap (before_rows joining r) (at_some joining entries r.end m below (sym some))
      ∙ longer joining r r.end m (rows_from joining entries (r.end + 1)) refl (sym joined)
      ∙ ap (λ n. before_rows joining (row r.first (r.end + 1) n) (rows_from joining entries (r.end + 1))) (sym (earlier_is_min r.step m s least))
