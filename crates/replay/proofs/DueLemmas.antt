-- How a run adds checkpoints at due steps.
use Rattle.std.proofs.Common.{◌≡◌, ℕ, ◌+◌, ◌*◌, ◌/◌, ◌%◌, ◌<◌, ◌≤◌, List, [], ◌∷◌, ◌++◌, length, max, Option, Some, None, ◌⊎◌, inl, inr, refl, ap, sym, ◌∙◌, subst, arith, append_assoc, lt_of_mul-lt-mul_right, mul-le-mul_right, div-mul-le_self, div-add-mod'}
use Rattle.std.specs.Prelude.{IfSome}
use Rattle.std.proofs.lemmas.Bool.{cases_lt}
use Rattle.std.proofs.lemmas.List.{append-nil}
use Rattle.std.proofs.lemmas.Option.{IfSome_then}
use Rattle.circular_buffer.specs.Buffer.{Buffer, keep_last}
use Rattle.replay.specs.declared.ring.Checkpoint.{Checkpoint}
use Rattle.replay.specs.Ring.{Each, IsDue, IsNewest, Adds, AddsEach, PushesIfAbove, SomeStep, ring_with}
use Rattle.replay.proofs.RingLemmas.{Each-weaken, Each-append, Rising-push, keep_last-keep_last, keep_last-all, kept_each, kept_same}

-- No multiple of the spacing is between n and the next multiple.
pub no_multiple : (n s k : ℕ) → n < k → k < (n / s + 1) * s → k % s ≡ 0 → ⊥
no_multiple n s k above below whole =
    let parts = div-add-mod' k s in
    let turns : k / s < n / s + 1 = lt_of_mul-lt-mul_right s (omega (arith, parts, whole, below)) in
    let low : k / s * s ≤ n / s * s = mul-le-mul_right s (omega arith) in
    omega (arith, parts, whole, low, above, div-mul-le_self n s)

some_more : (xs ys : List Checkpoint) (n : ℕ) → SomeStep xs n → SomeStep (xs ++ ys) n
some_more [] ys n h = absurd h
some_more (x ∷ xs) ys n (inl e) = inl e
some_more (x ∷ xs) ys n (inr h) = inr (some_more xs ys n h)

some_last : (xs : List Checkpoint) (c : Checkpoint) → SomeStep (xs ++ c ∷ []) c.step
some_last [] c = inl refl
some_last (x ∷ xs) c = inr (some_last xs c)

some_under : (m k : ℕ) (xs : List Checkpoint) → SomeStep xs m → Each (λ c. c.step < k) xs → m < k
some_under m k [] h b = absurd h
some_under m k (x ∷ xs) (inl e) b = omega (arith, e, b.0)
some_under m k (x ∷ xs) (inr h) b = some_under m k xs h b.1

under : (m k : ℕ) (xs : List Checkpoint) → (m ≡ 0) ⊎ SomeStep xs m → 0 < k → Each (λ c. c.step < k) xs → m < k
under m k xs (inl e) p b = omega (arith, e, p)
under m k xs (inr h) p b = some_under m k xs h b

-- Nothing is added.
pub none_added : (old : List Checkpoint) (slots from upto last spacing : ℕ) → length old ≤ slots → Adds old old slots from upto last spacing None
none_added old slots from upto last spacing short = record { made = []; kept = rw append-nil (sym (keep_last-all slots old short)); due = tt; rising = tt; left = tt }

-- A run begins with nothing added.
pub none_made : (old : List Checkpoint) (slots from last spacing : ℕ) → length old ≤ slots → AddsEach old old slots from from last spacing None
none_made old slots from last spacing short =
    record { adds = none_added old slots from from last spacing short; complete = λ k h _. absurd (omega (arith, h.reached.0, h.reached.1)) }

module _ (old : List Checkpoint) (from upto last spacing : ℕ) where
  due_on : (further k : ℕ) → upto ≤ further → IsDue old from upto last spacing k → IsDue old from further last spacing k
  due_on further k up h = record { reached = (h.reached.0, omega (arith, h.reached.1)); above = h.above; marked = h.marked }

  -- A due step stays due if the run goes further.
  pub widen : (new : List Checkpoint) (slots further : ℕ) (left : Option ℕ) → upto ≤ further → Adds old new slots from upto last spacing left → Adds old new slots from further last spacing left
  widen new slots further left up a = record {
    made = a.made;
    kept = a.kept;
    due = Each-weaken _ _ a.made (λ d h. due_on further d.step up h) a.due;
    rising = a.rising;
    left = IfSome_then left a.left (λ k h. due_on further k up h);
  }

  due_relast : (other k : ℕ) → upto < last → IsDue old from upto last spacing k → IsDue old from upto other spacing k
  due_relast other k below h = record {
    reached = h.reached;
    above = h.above;
    marked = elim h.marked [ inl m ↦ inl m | inr e ↦ absurd (omega (arith, e, h.reached.1, below)) ];
  }

  -- Below the limit no step is due because it is the limit, so the last step may be another one.
  pub relast : (new : List Checkpoint) (slots other : ℕ) (left : Option ℕ) → upto < last → upto ≤ other → (upto ≡ from) ⊎ ((upto % spacing ≡ 0) ⊎ (upto ≡ last))
      → AddsEach old new slots from upto last spacing left → AddsEach old new slots from upto other spacing left
  relast new slots other left below on spot g = record {
    adds = record {
      made = g.adds.made;
      kept = g.adds.kept;
      due = Each-weaken _ _ g.adds.made (λ d h. due_relast other d.step below h) g.adds.due;
      rising = g.adds.rising;
      left = IfSome_then left g.adds.left (λ k h. due_relast other k below h);
    };
    complete = λ k h. g.complete k (record { reached = h.reached; above = h.above; marked = again k h.reached h.marked });
  }
    where
      again : (k : ℕ) → (from < k) × (k ≤ upto) → (k % spacing ≡ 0) ⊎ (k ≡ other) → (k % spacing ≡ 0) ⊎ (k ≡ last)
      again k r (inl m) = inl m
      again k r (inr e) =
          let here : upto ≡ k = omega (arith, e, r.1, on) in
          elim spot [
            | inl s ↦ absurd (omega (arith, here, s, r.0))
            | inr p ↦ elim p [ inl m ↦ inl (subst (λ j. j % spacing ≡ 0) here m) | inr l ↦ absurd (omega (arith, l, below)) ]
          ]

-- From step n a run continues to a checkpoint's step, with no multiple of the spacing between.
module _ (old : List Checkpoint) (from last spacing greatest n : ℕ) (ring next : Buffer Checkpoint) (c : Checkpoint) (slots : ℕ) (left : Option ℕ)
    (newest : IsNewest greatest old) (begun : from ≤ n) (low : n ≤ c.step) (upto : c.step ≤ last) (mark : (c.step % spacing ≡ 0) ⊎ (c.step ≡ last))
    (first : (k : ℕ) → n < k → k < c.step → k % spacing ≡ 0 → ⊥) (g : AddsEach old ring.items slots from n last spacing left) where
  here : (k : ℕ) → IsDue old from c.step last spacing k → n < k → k ≡ c.step
  here k h b = elim (cases_lt k c.step) [
    | inl l ↦ elim h.marked [ inl m ↦ absurd (first k b l m) | inr e ↦ absurd (omega (arith, e, l, upto)) ]
    | inr l ↦ omega (arith, l, h.reached.1)
  ]

  before : (k : ℕ) → IsDue old from c.step last spacing k → k ≤ n → IfSome left (λ m. m < k) → SomeStep g.adds.made k
  before k h b past = g.complete k (record { reached = (h.reached.0, b); above = h.above; marked = h.marked }) past

  due : max greatest n < c.step → IsDue old from c.step last spacing c.step
  due above = record {
    reached = (omega (arith, above), omega arith);
    above = Each-weaken _ _ old (λ d h. omega (arith, h, above)) newest.greatest;
    marked = mark;
  }

  further : Adds old ring.items slots from c.step last spacing left
  further = widen old from n last spacing ring.items slots c.step left low g.adds

  -- It is made.
  made_on : max greatest n < c.step → AddsEach old (keep_last slots (ring.items ++ c ∷ [])) slots from c.step last spacing left
  unfolding further widen
  made_on above =
      let made = g.adds.made in
      record {
        adds = record {
          made = made ++ c ∷ [];
          kept = ap (λ (xs : List Checkpoint). keep_last slots (xs ++ c ∷ [])) g.adds.kept ∙ keep_last-keep_last slots (old ++ made) (c ∷ []) ∙ ap (λ (xs : List Checkpoint). keep_last slots xs) (append_assoc old made (c ∷ []));
          due = Each-append _ made (c ∷ []) further.due (due above, tt);
          rising = Rising-push made c g.adds.rising (Each-weaken _ _ made (λ d h. omega (arith, h.reached.1, above)) g.adds.due);
          left = further.left;
        };
        complete = λ k h past. elim (cases_lt n k) [
          | inl l ↦ subst (SomeStep (made ++ c ∷ [])) (sym (here k h l)) (some_last made c)
          | inr l ↦ some_more made (c ∷ []) k (before k h l past)
        ];
      }

  -- It is not above the newest, so it is not due.
  none_on : c.step ≤ max greatest n → AddsEach old ring.items slots from c.step last spacing left
  unfolding further widen
  none_on below = record {
    adds = further;
    complete = λ k h past. elim (cases_lt n k) [
      | inl l ↦ let same = here k h l in let more = under greatest k old newest.there (omega (arith, l)) h.above in absurd (omega (arith, same, more, below, l))
      | inr l ↦ before k h l past
    ];
  }

  -- It is left out.
  left_out_on : max greatest n < c.step → AddsEach old ring.items slots from c.step last spacing (Some c.step)
  left_out_on above = record {
    adds = record { made = further.made; kept = further.kept; due = further.due; rising = further.rising; left = due above };
    complete = λ k h past. absurd (omega (arith, past, h.reached.1));
  }

  pub continued : (now : Option ℕ) → ring.capacity ≡ slots → PushesIfAbove (max greatest n) ring next c
      → ((now ≡ left) × (max greatest n < c.step → next ≡ ring_with ring c)) ⊎ ((now ≡ Some c.step) × (max greatest n < c.step) × (next ≡ ring))
      → AddsEach old next.items slots from c.step last spacing now
  continued now room keeps (inl h) = elim (cases_lt (max greatest n) c.step) [
    | inl above ↦ rw (h.0, h.1 above, room) (made_on above)
    | inr below ↦ rw (h.0, kept_same _ ring next c keeps below) (none_on below)
  ]
  continued now room keeps (inr h) = rw (h.0, h.2) (left_out_on h.1)

-- Nothing in the ring is past the newest step so far.
pub still_top : (newest n : ℕ) (ring next : Buffer Checkpoint) (c : Checkpoint) → n ≤ c.step → PushesIfAbove (max newest n) ring next c → Each (λ d. d.step ≤ max newest n) ring.items
    → Each (λ d. d.step ≤ max newest c.step) next.items
still_top newest n ring next c low keeps top =
    kept_each (max newest n) ring c (λ d. d.step ≤ max newest c.step) next keeps (Each-weaken _ _ ring.items (λ d h. omega (arith, h)) top) (λ _. omega arith)
