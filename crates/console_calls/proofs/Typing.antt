-- A line that is taken byte by byte, and the tree that asks for its bytes.
use Rattle.std.proofs.Common.{◌≡◌, ℕ, zero, suc, cond, ◌+◌, ◌-◌, ◌<◌, ◌≤◌, ◌||◌, ◌==◌, Bool, true, false, nat_lt, List, [], ◌∷◌, length, get_or, Option, Some, None, slice_get, refl, ap, sym, ◌∙◌, arith}
use Rattle.std.proofs.Math.Bool.{or_assoc, or-false}
use Rattle.std.proofs.lemmas.Bool.Decides.{nat_tests}
use Rattle.std.proofs.lemmas.Option.{slice_get-get_or, slice_get_past}
use Rattle.interaction_trees.specs.Tree.{Return, Query, result_of, questions_of}
use Rattle.i8080.specs.Memory.{is_among}
use Rattle.console_calls.specs.declared.line.LineEnd.TheVariants as code
use Rattle.console_calls.specs.ScriptLooks.{is_ahead}
use Rattle.console_calls.specs.StateQuestions.{Input, answers, addresses, script_offsets}
use Rattle.console_calls.specs.Line.{Line, LineStep, Goes, Ends, Boots, LineEnd, Ended, Booted, Short, no_line, line_tree, line_after_answer, line_after_step, type_byte}
use Rattle.console_calls.specs.LineAgrees.{IsLineOf}

below : (n m : ℕ) → n < m → nat_lt n m ≡ true
below n m h = grind (arith, nat_tests)

above : (n m : ℕ) → m ≤ n → nat_lt n m ≡ false
above n m h = grind (arith, nat_tests)

-- One more offset.
ahead_next : (k i j : ℕ) → (is_ahead k i j || j == k + i) ≡ is_ahead k (i + 1) j
ahead_next k i j = grind (arith, nat_tests)

-- No cell is asked for.
pub no_cells : (byte : ℕ → ℕ) (script : List ℕ) (n m k : ℕ) (l : Line) → addresses (questions_of (answers byte script) (line_tree n m k l)) ≡ []
unfolding line_tree
no_cells byte script zero m k l = refl
no_cells byte script (suc n) m k l = by (λ l. no_cells byte script n m (k + 1) l) (nat_lt (length l.stored) m) where
  by_typed : ((l : Line) → addresses (questions_of (answers byte script) (line_tree n m (k + 1) l)) ≡ []) → (t : LineStep) → addresses (questions_of (answers byte script) (line_after_step (line_tree n m (k + 1)) k t)) ≡ []
  by_typed h (Goes l) = h l
  by_typed h (Ends l) = refl
  by_typed h Boots = refl

  by_answer : ((l : Line) → addresses (questions_of (answers byte script) (line_tree n m (k + 1) l)) ≡ []) → (a : Option ℕ) → addresses (questions_of (answers byte script) (line_after_answer (line_tree n m (k + 1)) k l a)) ≡ []
  by_answer h None = refl
  by_answer h (Some b) = by_typed h (type_byte l b)

  by : ((l : Line) → addresses (questions_of (answers byte script) (line_tree n m (k + 1) l)) ≡ []) → (b : Bool) → addresses (questions_of (answers byte script) (cond b (Query (Input k) (line_after_answer (line_tree n m (k + 1)) k l)) (Return (Ended l k)))) ≡ []
  by h true = by_answer h (slice_get script k)
  by h false = refl

module _ (byte : ℕ → ℕ) (script : List ℕ) (n m k : ℕ) (l : Line) where
  -- The next byte is asked for.
  asks_result : length l.stored < m → result_of (answers byte script) (line_tree (suc n) m k l) ≡ result_of (answers byte script) (line_after_answer (line_tree n m (k + 1)) k l (slice_get script k))
  unfolding line_tree
  asks_result h = rw (below (length l.stored) m h) refl

  asks_offsets : length l.stored < m → script_offsets (questions_of (answers byte script) (line_tree (suc n) m k l)) ≡ k ∷ script_offsets (questions_of (answers byte script) (line_after_answer (line_tree n m (k + 1)) k l (slice_get script k)))
  unfolding line_tree
  asks_offsets h = rw (below (length l.stored) m h) refl

  full_result : m ≤ length l.stored → result_of (answers byte script) (line_tree (suc n) m k l) ≡ Ended l k
  unfolding line_tree
  full_result h = rw (above (length l.stored) m h) refl

  full_offsets : m ≤ length l.stored → script_offsets (questions_of (answers byte script) (line_tree (suc n) m k l)) ≡ []
  unfolding line_tree
  full_offsets h = rw (above (length l.stored) m h) refl

-- The first i bytes were taken and make this line.
pub record IsTyped (script : List ℕ) (m k i : ℕ) (l : Line) : Type 0 where
  pub ends : (byte : ℕ → ℕ) (fuel : ℕ) → result_of (answers byte script) (line_tree (i + fuel) m k no_line) ≡ result_of (answers byte script) (line_tree fuel m (k + i) l)
  pub offsets : (byte : ℕ → ℕ) (fuel j : ℕ) → is_among j (script_offsets (questions_of (answers byte script) (line_tree (i + fuel) m k no_line))) ≡ (is_ahead k i j || is_among j (script_offsets (questions_of (answers byte script) (line_tree fuel m (k + i) l))))

nothing_ahead : (k j : ℕ) → is_ahead k 0 j ≡ false
nothing_ahead k j = grind (arith, nat_tests)

zero_more : (n : ℕ) → 0 + n ≡ n
zero_more n = omega arith

more_zero : (n : ℕ) → n + 0 ≡ n
more_zero n = omega arith

pub nothing_typed : (script : List ℕ) (m k : ℕ) → IsTyped script m k 0 no_line
nothing_typed script m k = record {
  ends = λ byte fuel. rw (zero_more fuel, more_zero k) refl;
  offsets = λ byte fuel j.
      ap (λ (n : ℕ). is_among j (script_offsets (questions_of (answers byte script) (line_tree n m k no_line)))) (zero_more fuel)
      ∙ ap (λ (at : ℕ). is_among j (script_offsets (questions_of (answers byte script) (line_tree fuel m at no_line)))) (sym (more_zero k))
      ∙ ap (λ (b : Bool). b || is_among j (script_offsets (questions_of (answers byte script) (line_tree fuel m (k + 0) no_line)))) (sym (nothing_ahead k j));
}

one_later : (i fuel : ℕ) → (i + 1) + fuel ≡ i + suc fuel
one_later i fuel = omega arith

one_on : (k i : ℕ) → (k + i) + 1 ≡ k + (i + 1)
one_on k i = omega arith

module _ {script : List ℕ} {m k i : ℕ} {l l' : Line} (t : IsTyped script m k i l) (room : length l.stored < m) (b : ℕ) (is : slice_get script (k + i) ≡ Some b) where
  -- The line continues.
  pub goes_typed : Goes l' ≡ type_byte l b → IsTyped script m k (i + 1) l'
  goes_typed e = record {
    ends = λ byte fuel.
        ap (λ (n : ℕ). result_of (answers byte script) (line_tree n m k no_line)) (one_later i fuel)
        ∙ t.ends byte (suc fuel)
        ∙ asks_result byte script fuel m (k + i) l room
        ∙ ap (λ (a : Option ℕ). result_of (answers byte script) (line_after_answer (line_tree fuel m (k + i + 1)) (k + i) l a)) is
        ∙ ap (λ (x : LineStep). result_of (answers byte script) (line_after_step (line_tree fuel m (k + i + 1)) (k + i) x)) (sym e)
        ∙ ap (λ (at : ℕ). result_of (answers byte script) (line_tree fuel m at l')) (one_on k i);
    offsets = λ byte fuel j.
        let rest : List ℕ = script_offsets (questions_of (answers byte script) (line_tree fuel m (k + (i + 1)) l')) in
        ap (λ (n : ℕ). is_among j (script_offsets (questions_of (answers byte script) (line_tree n m k no_line)))) (one_later i fuel)
        ∙ t.offsets byte (suc fuel) j
        ∙ ap (λ (ks : List ℕ). is_ahead k i j || is_among j ks)
        (asks_offsets byte script fuel m (k + i) l room
        ∙ ap (λ (a : Option ℕ). (k + i) ∷ script_offsets (questions_of (answers byte script) (line_after_answer (line_tree fuel m (k + i + 1)) (k + i) l a))) is
        ∙ ap (λ (x : LineStep). (k + i) ∷ script_offsets (questions_of (answers byte script) (line_after_step (line_tree fuel m (k + i + 1)) (k + i) x))) (sym e)
        ∙ ap (λ (at : ℕ). (k + i) ∷ script_offsets (questions_of (answers byte script) (line_tree fuel m at l'))) (one_on k i))
        ∙ sym (or_assoc (is_ahead k i j) (j == k + i) (is_among j rest))
        ∙ ap (λ (b : Bool). b || is_among j rest) (ahead_next k i j);
  }

-- The bound that is left after i bytes.
left : (i n : ℕ) → i ≤ n → suc n ≡ i + suc (n - i)
left i n h = omega arith

module _ {script : List ℕ} {m k i : ℕ} {l : Line} (t : IsTyped script m k i l) (byte : ℕ → ℕ) (n : ℕ) (within : i ≤ n) where
  -- From the end of the rest to the end of the whole.
  ends_as : (e : LineEnd) → result_of (answers byte script) (line_tree (suc (n - i)) m (k + i) l) ≡ e → result_of (answers byte script) (line_tree (suc n) m k no_line) ≡ e
  ends_as e h = ap (λ (x : ℕ). result_of (answers byte script) (line_tree x m k no_line)) (left i n within) ∙ t.ends byte (suc (n - i)) ∙ h

  asks_as : (ks : List ℕ) → script_offsets (questions_of (answers byte script) (line_tree (suc (n - i)) m (k + i) l)) ≡ ks
      → (j : ℕ) → is_among j (script_offsets (questions_of (answers byte script) (line_tree (suc n) m k no_line))) ≡ (is_ahead k i j || is_among j ks)
  asks_as ks h j = ap (λ (x : ℕ). is_among j (script_offsets (questions_of (answers byte script) (line_tree x m k no_line)))) (left i n within) ∙ t.offsets byte (suc (n - i)) j
      ∙ ap (λ (x : List ℕ). is_ahead k i j || is_among j x) h

  one_offset : (j : ℕ) → (is_ahead k i j || is_among j ((k + i) ∷ [])) ≡ is_ahead k (i + 1) j
  one_offset j = sym (or_assoc (is_ahead k i j) (j == k + i) false) ∙ or-false (is_ahead k i j || j == k + i) ∙ ahead_next k i j

  -- The line is full.
  pub full_types : m ≤ length l.stored → IsLineOf script m k (code.Ended l i) byte n
  full_types h = record {
    ends = ends_as (Ended l (k + i)) (full_result byte script (n - i) m (k + i) l h);
    offsets = λ j. asks_as [] (full_offsets byte script (n - i) m (k + i) l h) j ∙ or-false (is_ahead k i j);
  }

  -- A byte ends it.
  module _ (room : length l.stored < m) (b : ℕ) (is : slice_get script (k + i) ≡ Some b) where
    pub ends_types : (l' : Line) → Ends l' ≡ type_byte l b → IsLineOf script m k (code.Ended l' (i + 1)) byte n
    ends_types l' e = record {
      ends = ends_as (Ended l' (k + (i + 1)))
          (asks_result byte script (n - i) m (k + i) l room
          ∙ ap (λ (a : Option ℕ). result_of (answers byte script) (line_after_answer (line_tree (n - i) m (k + i + 1)) (k + i) l a)) is
          ∙ ap (λ (x : LineStep). result_of (answers byte script) (line_after_step (line_tree (n - i) m (k + i + 1)) (k + i) x)) (sym e)
          ∙ ap (λ (at : ℕ). Ended l' at) (one_on k i));
      offsets = λ j. asks_as ((k + i) ∷ [])
          (asks_offsets byte script (n - i) m (k + i) l room
          ∙ ap (λ (a : Option ℕ). (k + i) ∷ script_offsets (questions_of (answers byte script) (line_after_answer (line_tree (n - i) m (k + i + 1)) (k + i) l a))) is
          ∙ ap (λ (x : LineStep). (k + i) ∷ script_offsets (questions_of (answers byte script) (line_after_step (line_tree (n - i) m (k + i + 1)) (k + i) x))) (sym e)) j
          ∙ one_offset j;
    }

    pub boots_types : Boots ≡ type_byte l b → IsLineOf script m k (code.Booted (i + 1)) byte n
    boots_types e = record {
      ends = ends_as Booted
          (asks_result byte script (n - i) m (k + i) l room
          ∙ ap (λ (a : Option ℕ). result_of (answers byte script) (line_after_answer (line_tree (n - i) m (k + i + 1)) (k + i) l a)) is
          ∙ ap (λ (x : LineStep). result_of (answers byte script) (line_after_step (line_tree (n - i) m (k + i + 1)) (k + i) x)) (sym e));
      offsets = λ j. asks_as ((k + i) ∷ [])
          (asks_offsets byte script (n - i) m (k + i) l room
          ∙ ap (λ (a : Option ℕ). (k + i) ∷ script_offsets (questions_of (answers byte script) (line_after_answer (line_tree (n - i) m (k + i + 1)) (k + i) l a))) is
          ∙ ap (λ (x : LineStep). (k + i) ∷ script_offsets (questions_of (answers byte script) (line_after_step (line_tree (n - i) m (k + i + 1)) (k + i) x))) (sym e)) j
          ∙ one_offset j;
    }

  -- The script ends first.
  pub short_types : length l.stored < m → slice_get script (k + i) ≡ None → IsLineOf script m k (code.Short (i + 1)) byte n
  short_types room is = record {
    ends = ends_as Short
        (asks_result byte script (n - i) m (k + i) l room
        ∙ ap (λ (a : Option ℕ). result_of (answers byte script) (line_after_answer (line_tree (n - i) m (k + i + 1)) (k + i) l a)) is);
    offsets = λ j. asks_as ((k + i) ∷ [])
        (asks_offsets byte script (n - i) m (k + i) l room
        ∙ ap (λ (a : Option ℕ). (k + i) ∷ script_offsets (questions_of (answers byte script) (line_after_answer (line_tree (n - i) m (k + i + 1)) (k + i) l a))) is) j
        ∙ one_offset j;
  }

-- The byte at an offset of the script.
pub byte_is : (script : List ℕ) (offset k i : ℕ) → offset ≡ k + i → offset < length script → slice_get script (k + i) ≡ Some (get_or script offset 0)
byte_is script offset k i e h = ap (slice_get script) (sym e) ∙ slice_get-get_or script offset 0 h

pub no_byte : (script : List ℕ) (k i : ℕ) → length script ≤ k + i → slice_get script (k + i) ≡ None
no_byte script k i h = slice_get_past script (k + i) h
