-- Known cells stay known after reads, writes and removed looks.
use Rattle.std.proofs.Common.{inl, inr, ◌≡◌, ◌≢◌, ℕ, Bool, true, false, cond, ◌||◌, ◌++◌, ◌∷◌, [], List, IsTrue, is_some, refl, sym, ◌∙◌, ap, subst, eqb, length, get_or, ◌<◌, ◌≤◌, ◌+◌, ◌-◌, ◌⊎◌, slice_index, arith, unwrap_or}
use Rattle.std.proofs.lemmas.Bool.Decides.{eqb_tells}
use Rattle.std.proofs.lemmas.Bool.{cases_lt}
use Rattle.std.proofs.lemmas.List.{get_or_past}
use Rattle.i8080.specs.Memory.{Own, Looks, look, over, write, write_all, is_among}
use Rattle.i8080.specs.End.{cells_from}
use Rattle.i8080.proofs.LookLemmas.{is_among-append}
use Rattle.pagemem.specs.Pages.{IsLaid}
use Rattle.pagemem.specs.Known.{IsKnownCell}
use Rattle.pagemem.proofs.RunLaws.{outside, each_written}

-- A read of a cell that was written or looked at adds no look.
pub look_seen : (own : Own) (looks : Looks) (q : ℕ) → (is_some (own q) || is_among q looks) ≡ true → look own looks q ≡ looks
unfolding look
look_seen own looks q s = rw s refl

-- What was seen is still seen after one more look.
or_more : (w m r : Bool) → (w || m) ≡ true → (w || (m || r)) ≡ true
or_more true m r h = refl
or_more false true r h = refl
or_more false false r h = let no : false ≡ true = h in cc

seen_later : (own : Own) (looks : Looks) (a q : ℕ) → (is_some (own q) || is_among q looks) ≡ true → (is_some (own q) || is_among q (look own looks a)) ≡ true
unfolding look
seen_later own looks a q h = by_case (is_some (own a) || is_among a looks) where
  by_case : (b : Bool) → (is_some (own q) || is_among q (cond b looks (looks ++ a ∷ []))) ≡ true
  by_case true = h
  by_case false = ap (λ b. is_some (own q) || b) (is_among-append q looks (a ∷ [])) ∙ or_more (is_some (own q)) (is_among q looks) (is_among q (a ∷ [])) h

-- The cell of a look is seen after it.
at_end : (a : ℕ) (b : Bool) → (b || (eqb a a || false)) ≡ true
at_end a true = refl
at_end a false = elim (eqb_tells a a) [ inl same ↦ rw same.0 refl | inr other ↦ absurd (other.1 refl) ]

pub seen_now : (own : Own) (looks : Looks) (a : ℕ) → (is_some (own a) || is_among a (look own looks a)) ≡ true
unfolding look
seen_now own looks a = by_case (is_some (own a)) (is_among a looks) refl where
  by_case : (w m : Bool) → is_among a looks ≡ m → (w || is_among a (cond (w || m) looks (looks ++ a ∷ []))) ≡ true
  by_case true m e = refl
  by_case false true e = e
  by_case false false e = is_among-append a looks (a ∷ []) ∙ at_end a (is_among a looks)

module _ (own : Own) (beneath : ℕ → ℕ) (looks : Looks) (was is : ℕ → Bool) (old new : ℕ → ℕ) (known : (q : ℕ) → IsTrue (was q) → IsKnownCell own beneath looks q (old q)) where
  -- After a cell that was written or looked at becomes known.
  pub known_by_set : (a v : ℕ) → v ≡ over own beneath a → (is_some (own a) || is_among a looks) ≡ true → ((q : ℕ) → is q ≡ cond (eqb q a) true (was q)) → ((q : ℕ) → new q ≡ cond (eqb q a) v (old q))
      → (q : ℕ) → IsTrue (is q) → IsKnownCell own beneath looks q (new q)
  known_by_set a v value seen marks bytes q h = elim (eqb_tells q a) [
    | inl same ↦ rw (bytes q, same.0) (subst (λ (k : ℕ). IsKnownCell own beneath looks k v) (sym same.1) (record { value = value; seen = seen }))
    | inr other ↦ rw (bytes q, other.0) (known q (sym (marks q ∙ rw other.0 refl) ∙ h))
  ]

  -- After a write of a cell, which is then known.
  pub known_by_write : (a v : ℕ) → ((q : ℕ) → is q ≡ cond (eqb q a) true (was q)) → ((q : ℕ) → new q ≡ cond (eqb q a) v (old q))
      → (q : ℕ) → IsTrue (is q) → IsKnownCell (write own a v) beneath looks q (new q)
  unfolding write
  known_by_write a v marks bytes q h = elim (eqb_tells q a) [
    | inl same ↦ rw (bytes q, same.0) (record { value = refl; seen = refl })
    | inr other ↦ rw (bytes q, other.0) (known q (sym (marks q ∙ rw other.0 refl) ∙ h))
  ]

  -- After writes of consecutive cells, which are then known.
  pub known_by_writes : (a : ℕ) (values : List ℕ) → a + length values ≤ 65536 → ((i : ℕ) → i < length values → new (a + i) ≡ slice_index values i)
      → ((q : ℕ) → (q < a) ⊎ (a + length values ≤ q) → (is q ≡ was q) × (new q ≡ old q))
      → (q : ℕ) → IsTrue (is q) → IsKnownCell (write_all own (cells_from a values)) beneath looks q (new q)
  known_by_writes a values fits inside beside q h = elim (cases_lt q a) [
    | inl low ↦ apart (inl low)
    | inr high ↦ elim (cases_lt q (a + length values)) [ inl within ↦ written (q - a) (omega (arith, high)) (omega (arith, high, within)) | inr past ↦ apart (inr past) ]
  ] where
    apart : (q < a) ⊎ (a + length values ≤ q) → IsKnownCell (write_all own (cells_from a values)) beneath looks q (new q)
    apart out =
        let e = beside q out in
        let k = known q (sym e.0 ∙ h) in
        let same = outside own a values q fits out in
        rw (e.1) (record { value = k.value ∙ ap (λ o. unwrap_or o (beneath q)) (sym same); seen = ap (λ o. is_some o || is_among q looks) same ∙ k.seen })

    written : (i : ℕ) → a + i ≡ q → i < length values → IsKnownCell (write_all own (cells_from a values)) beneath looks q (new q)
    written i e below =
        let w = each_written own a values i fits below in
        subst (λ (k : ℕ). IsKnownCell (write_all own (cells_from a values)) beneath looks k (new k)) e
        (record { value = inside i below ∙ sym (ap (λ o. unwrap_or o (beneath (a + i))) w); seen = ap (λ o. is_some o || is_among (a + i) looks) w })

  -- Without the last look, if its cell is removed.
  pub known_by_take : (a : ℕ) (left : Looks) → ((q : ℕ) → is q ≡ cond (eqb q a) false (was q)) → ((q : ℕ) → new q ≡ old q) → looks ≡ left ++ a ∷ []
      → (q : ℕ) → IsTrue (is q) → IsKnownCell own beneath left q (new q)
  known_by_take a left marks bytes last q h = elim (eqb_tells q a) [
    | inl same ↦ absurd (let no : false ≡ true = sym (marks q ∙ rw same.0 refl) ∙ h in cc)
    | inr other ↦
        let k = known q (sym (marks q ∙ rw other.0 refl) ∙ h) in
        record { value = bytes q ∙ k.value; seen = sym (ap (λ b. is_some (own q) || b) (ap (is_among q) last ∙ is_among-append q left (a ∷ []) ∙ rw other.0 refl ∙ without (is_among q left))) ∙ k.seen }
  ] where
    without : (b : Bool) → (b || (false || false)) ≡ b
    without true = refl
    without false = refl

-- After a read by which no cell becomes known.
pub known_by_look : (own : Own) (beneath : ℕ → ℕ) (looks : Looks) (known : ℕ → Bool) (byte : ℕ → ℕ) (a : ℕ) → ((q : ℕ) → IsTrue (known q) → IsKnownCell own beneath looks q (byte q))
    → (q : ℕ) → IsTrue (known q) → IsKnownCell own beneath (look own looks a) q (byte q)
known_by_look own beneath looks known byte a each q h = let k = each q h in record { value = k.value; seen = seen_later own looks a q k.seen }

-- If nothing was looked at, each known cell was written.
pub known_written : (own : Own) (beneath : ℕ → ℕ) (looks : Looks) (q byte : ℕ) → looks ≡ [] → IsKnownCell own beneath looks q byte → is_some (own q) ≡ true
known_written own beneath looks q byte none k = sym (right (is_some (own q))) ∙ ap (λ (l : Looks). is_some (own q) || is_among q l) (sym none) ∙ k.seen where
  right : (b : Bool) → (b || false) ≡ b
  right true = refl
  right false = refl

-- A byte that is laid over a cell is the byte of a known cell.
pub laid_known : (own : Own) (beneath : ℕ → ℕ) (looks : Looks) (q below byte : ℕ) (mark : Bool) → mark ≡ is_among q looks → below ≡ beneath q → IsLaid (own q) below mark byte → IsKnownCell own beneath looks q byte
laid_known own beneath looks q below byte mark e f w = record { value = w.value ∙ ap (unwrap_or (own q)) f; seen = ap (λ b. is_some (own q) || b) (sym e) ∙ w.seen }

-- The cell of a read is seen after it.
pub seen_after : (own own' : Own) (looks looks' : Looks) (a : ℕ) → own' ≡ own → looks' ≡ look own looks a → (is_some (own' a) || is_among a looks') ≡ true
seen_after own own' looks looks' a e f = rw (e, f) (seen_now own looks a)

-- No cell past the last is known.
pub none_past : (marks : List Bool) (q : ℕ) → length marks ≡ 65537 → get_or marks 65536 false ≡ false → 65536 ≤ q → get_or marks q false ≡ false
none_past marks q e end h = elim (eqb_tells q 65536) [
  | inl same ↦ subst (λ (k : ℕ). get_or marks k false ≡ false) (sym same.1) end
  | inr other ↦ get_or_past marks q false (let apart : q ≢ 65536 = other.1 in omega (arith, e, h, apart))
]
