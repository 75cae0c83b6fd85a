-- The byte of a known cell, if it is returned.
use Rattle.std.proofs.Common.{◌≡◌, ◌<◌, ◌≤◌, ◌+◌, ◌∙◌, ap, sym, refl, subst, arith, Option, Some, None, IfSome, IsTrue, true, ℕ, zero, suc, ltb-true, lt-ltb}
use Rattle.std.proofs.lemmas.Bool.{and_from, and_parts}
use Rattle.i8080.specs.Attempts.{AreReadable}
use Rattle.i8080.specs.Memory.{look, over}
use Rattle.i8080.specs.Registers.{onward, word}
use Rattle.i8080.specs.Reading.{Cell, Done}
use Rattle.i8080.specs.Instruction.{word_at}
use Rattle.i8080.specs.Performs.{Reads}
use Rattle.pagemem.specs.Overlay.{own_of, looks_of, beneath_of, memory_of}
use Rattle.pagemem.specs.Known.{is_known, is_readable, byte_in}
use Rattle.pagemem.specs.Learned.{AreKnown}
use Rattle.pagemem.specs.declared.known.Known.{Known}
use Rattle.pagemem.specs.declared.overlay.Overlay.{Overlay}
use Rattle.pagemem.proofs.KnownLemmas.{look_seen}

-- It is the byte over the image that the known cells belong to.
pub valued : (o : Overlay) (a : ℕ) (r : Option ℕ) → IfSome r (λ _. is_known o.known a ≡ true) → IfSome r (λ v. v ≡ byte_in o.known a) → IfSome r (λ v. v ≡ over (own_of o) (beneath_of o) a)
valued o a (Some v) k b = b ∙ (o.agrees a k).value
valued o a None k b = tt

-- A read of it is no new look.
pub unlooked : (o : Overlay) (a : ℕ) (r : Option ℕ) → IfSome r (λ _. is_known o.known a ≡ true) → IfSome r (λ _. look (own_of o) (looks_of o) a ≡ looks_of o)
unlooked o a (Some v) k = look_seen (own_of o) (looks_of o) a (o.agrees a k).seen
unlooked o a None k = tt

-- The same for the cell after it.
pub unlooked_next : (o : Overlay) (a : ℕ) (r : Option ℕ) → IfSome r (λ _. a < 65535) → IfSome r (λ _. is_known o.known (a + 1) ≡ true) → IfSome r (λ _. look (own_of o) (looks_of o) (onward a 1) ≡ looks_of o)
unlooked_next o a (Some v) i k = subst (λ (q : ℕ). look (own_of o) (looks_of o) q ≡ looks_of o) (omega (arith, i)) (look_seen (own_of o) (looks_of o) (a + 1) (o.agrees (a + 1) k).seen)
unlooked_next o a None i k = tt

-- A read of a known cell, and of two, returns what is kept for them and adds no look.
module _ (o : Overlay) (a : ℕ) (known : is_known o.known a ≡ true) where
  quiet : (q : ℕ) → a ≡ q → look (own_of o) (looks_of o) q ≡ looks_of o
  quiet q e = subst (λ (c : ℕ). look (own_of o) (looks_of o) c ≡ looks_of o) e (look_seen (own_of o) (looks_of o) a (o.agrees a known).seen)

  kept : (q : ℕ) → a ≡ q → byte_in o.known a ≡ over (own_of o) (beneath_of o) q
  kept q e = (o.agrees a known).value ∙ ap (over (own_of o) (beneath_of o)) e

  pub reads_known : (q : ℕ) → a ≡ q → Reads (Cell q Done) (memory_of o) (byte_in o.known a) (memory_of o)
  reads_known q e = record { value = kept q e; looks = sym (quiet q e); own = refl; beneath = refl; lender = refl }

pub reads_known_word : (o : Overlay) (a b q : ℕ) → is_known o.known a ≡ true → is_known o.known b ≡ true → a ≡ q → b ≡ onward q 1 → Reads (word_at q Done) (memory_of o) (word (byte_in o.known a) (byte_in o.known b)) (memory_of o)
reads_known_word o a b q low high e f = record {
  value = ap (λ v. word v (byte_in o.known b)) (kept o a low q e) ∙ ap (word (over (own_of o) (beneath_of o) q)) (kept o b high (onward q 1) f);
  looks = sym (ap (λ l. look (own_of o) l (onward q 1)) (quiet o a low q e) ∙ quiet o b high (onward q 1) f);
  own = refl;
  beneath = refl;
  lender = refl;
}

-- Cells that may be read without a test are known, and the last cell is not among them.
module _ (k : Known) (a n : ℕ) (low : a < 65536) (readable : AreReadable (is_readable k) a n) where
  readable_at : (i : ℕ) → i < n → a + i < 65536 → (a + i < 65535) × IsTrue (is_known k (a + i))
  readable_at i h inside =
      let both = and_parts _ _ (subst (λ (q : ℕ). IsTrue (is_readable k q)) (let e : onward a i ≡ a + i = omega arith in e) (readable i h)) in
      (ltb-true _ _ both.1, both.0)

  known_readable : (i : ℕ) → i < n → (a + i < 65535) × IsTrue (is_known k (a + i))
  known_readable zero h = readable_at zero h (omega arith)
  known_readable (suc i) h = let last = (known_readable i (omega (arith, h))).0 in readable_at (suc i) h (omega (arith, last))

  pub are_known : AreKnown (is_known k) a n
  are_known i h = (known_readable i h).1

-- The known bytes of an instruction below the system area may be read.
pub readable_known : (k : Known) (a n : ℕ) → a < 65024 → n ≤ 3 → AreKnown (is_known k) a n → AreReadable (is_readable k) a n
readable_known k a n low few known i h =
    subst (λ (q : ℕ). IsTrue (is_readable k q)) (let e : a + i ≡ onward a i = omega (arith, low, few, h) in e) (and_from _ _ (known i h) (lt-ltb _ _ (omega (arith, low, few, h))))
