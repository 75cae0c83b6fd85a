-- Learned opcodes stay so when cells become known, or are removed.
use Rattle.std.proofs.Common.{inl, inr, ◌≡◌, ◌<◌, ◌≤◌, ◌+◌, ◌-◌, ◌⊎◌, ℕ, List, zero, suc, subst, replicate, Bool, cond, eqb, IsTrue, get_or, refl, sym, ◌∙◌, arith, Option, Some, None}
use Rattle.std.proofs.lemmas.Bool.{cases_lt}
use Rattle.std.proofs.lemmas.Bool.Decides.{eqb_tells}
use Rattle.i8080.specs.declared.opcode.Op.{Op}
use Rattle.i8080.specs.declared.opcode.Op.TheVariants.{Accumulate}
use Rattle.i8080.specs.declared.opcode.Source.TheVariants.{At, Immediate}
use Rattle.i8080.specs.Opcodes.{decoded}
use Rattle.i8080.specs.Operands.{byte_count, operand_count}
use Rattle.pagemem.specs.Learned.{AreKnown, IsLearned}

-- Each cell with an opcode other than HLT has a learned one.
abbrev pub AreLearned : (ℕ → Bool) → (ℕ → ℕ) → (ℕ → ℕ) → Type 0
AreLearned known byte opcode = (q : ℕ) → (opcode q ≡ 118 → ⊥) → IsLearned known (byte q) q (opcode q)

-- An instruction has at most three bytes.
operands_at_most : (op : Op) → operand_count op ≤ 2
operands_at_most (Accumulate _ Immediate) = omega arith
operands_at_most (Accumulate _ (At _)) = omega arith
operands_at_most _ = omega arith

pub bytes_at_most : (o : Option Op) → byte_count o ≤ 3
bytes_at_most None = omega arith
bytes_at_most (Some op) = omega (arith, operands_at_most op)

-- And at least one.
pub bytes_at_least : (o : Option Op) → 0 < byte_count o
bytes_at_least None = omega arith
bytes_at_least (Some op) = omega arith

-- After a change, if each cell then has no learned opcode, or the same as before and none of the three bytes of an instruction there was removed.
module _ (was is : ℕ → Bool) (old new opcode after : ℕ → ℕ) (learned : AreLearned was old opcode) where
  abbrev pub Stays : ℕ → Type 0
  Stays q = (new q ≡ old q) × (after q ≡ opcode q) × ((i : ℕ) → i < 3 → IsTrue (was (q + i)) → IsTrue (is (q + i)))

  pub learned_after : ((q : ℕ) → (after q ≡ 118) ⊎ Stays q) → AreLearned is new after
  learned_after each q some = elim (each q) [
    | inl none ↦ absurd (some none)
    | inr stays ↦
        let l = learned q (λ h. some (stays.1 ∙ h)) in
        let here : q + 0 ≡ q = omega arith in
        rw (stays.0, stays.1) (record {
          known = subst (λ (k : ℕ). IsTrue (is k)) here (stays.2 0 (omega arith) (subst (λ (k : ℕ). IsTrue (was k)) (sym here) l.known));
          operand = λ i h. stays.2 i (omega (arith, h, bytes_at_most (decoded (opcode q)))) (l.operand i h);
          same = l.same;
          low = l.low;
        })
  ]

  -- After consecutive cells became known, which then have no learned opcode.
  pub learned_by_part : (from count : ℕ) → ((i : ℕ) → i < count → after (from + i) ≡ 118) → ((q : ℕ) → (q < from) ⊎ (from + count ≤ q) → (new q ≡ old q) × (after q ≡ opcode q))
      → ((q : ℕ) → IsTrue (was q) → IsTrue (is q)) → AreLearned is new after
  learned_by_part from count inside outside grows = learned_after (λ q. elim (cases_lt q from) [
    | inl low ↦ apart q (inl low)
    | inr high ↦ elim (cases_lt q (from + count)) [
      | inl within ↦ inl (subst (λ (k : ℕ). after k ≡ 118) (let e : from + (q - from) ≡ q = omega (arith, high) in e) (inside (q - from) (omega (arith, high, within))))
      | inr past ↦ apart q (inr past)
    ]
  ]) where
    apart : (q : ℕ) → (q < from) ⊎ (from + count ≤ q) → (after q ≡ 118) ⊎ Stays q
    apart q out = let e = outside q out in inr (e.0, e.1, λ i h. grows (q + i))

  -- After consecutive cells were removed, if none from the second cell before them on has a learned opcode then.
  pub learned_by_removal : (from count start size : ℕ) → start ≡ from - 2 → size ≡ from + count - start → ((i : ℕ) → i < size → after (start + i) ≡ 118) → ((q : ℕ) → (q < start) ⊎ (start + size ≤ q) → after q ≡ opcode q)
      → ((q : ℕ) → new q ≡ old q) → ((q : ℕ) → (q < from) ⊎ (from + count ≤ q) → is q ≡ was q) → AreLearned is new after
  learned_by_removal from count start size e f inside outside bytes marks = learned_after (λ q. elim (cases_lt q start) [
    | inl low ↦ inr (bytes q, outside q (inl low), λ i h w. marks (q + i) (inl (omega (arith, e, low, h))) ∙ w)
    | inr high ↦ elim (cases_lt q (from + count)) [
      | inl within ↦ inl (subst (λ (k : ℕ). after k ≡ 118) (let g : start + (q - start) ≡ q = omega (arith, high) in g) (inside (q - start) (omega (arith, e, f, high, within))))
      | inr past ↦ inr (bytes q, outside q (inr (omega (arith, e, f, past))), λ i h w. marks (q + i) (inr (omega (arith, past))) ∙ w)
    ]
  ])

-- After an opcode was learned.
pub learned_by_learning : (known : ℕ → Bool) (byte opcode after : ℕ → ℕ) (a v n : ℕ) → AreLearned known byte opcode → v ≡ byte a → n ≡ byte_count (decoded v) → AreKnown known a n → a < 65024
    → ((q : ℕ) → after q ≡ cond (eqb q a) v (opcode q)) → AreLearned known byte after
learned_by_learning known byte opcode after a v n learned value count readable low opcodes q some = elim (eqb_tells q a) [
  | inl same ↦ here (opcodes q ∙ rw same.0 refl) same.1
  | inr other ↦ let e = opcodes q ∙ rw other.0 refl in rw e (learned q (λ h. some (e ∙ h)))
] where
  all : AreKnown known a (byte_count (decoded v))
  all = subst (λ (k : ℕ). AreKnown known a k) count readable

  here : after q ≡ v → q ≡ a → IsLearned known (byte q) q (after q)
  here e f = rw (e, f) (record { known = subst (λ (k : ℕ). IsTrue (known k)) (let z : a + 0 ≡ a = omega arith in z) (all 0 (bytes_at_least (decoded v))); operand = all; same = value; low = low })

-- No cell has a learned opcode.
pub none_learned : (known : ℕ → Bool) (byte opcode : ℕ → ℕ) → ((q : ℕ) → opcode q ≡ 118) → AreLearned known byte opcode
none_learned known byte opcode none q some = absurd (some (none q))

all_alike : (n x q : ℕ) → get_or (replicate n x) q x ≡ x
all_alike zero x q = refl
all_alike (suc n) x zero = refl
all_alike (suc n) x (suc q) = all_alike n x q

pub none_kept : (n x : ℕ) (opcodes : List ℕ) → opcodes ≡ replicate n x → (q : ℕ) → get_or opcodes q x ≡ x
none_kept n x opcodes e q = rw (e, all_alike n x q)
