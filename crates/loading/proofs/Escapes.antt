-- The bytes that a text gives.
use Rattle.std.proofs.Common.{◌≡◌, ◌<◌, ◌≤◌, ◌∙◌, ◌++◌, ◌∷◌, [], ℕ, Bool, true, false, List, Option, Some, None, Result, Ok, Err, ap, arith, cond, drop, length, refl, sym}
use Rattle.std.specs.Prelude.{◌==◌, option_map}
use Rattle.hex.specs.declared.error.FromHexError.{FromHexError}
use Rattle.loading.specs.Typed.{Gives, by_digits, byte_before, escaped, first_typed, letter_byte}

-- One more byte.
pub one_further : (text bytes middle : List ℕ) (byte : ℕ) (rest : List ℕ) → Gives text bytes middle → first_typed middle ≡ Some (byte, rest)
    → Gives text (bytes ++ byte ∷ []) rest
one_further text [] middle byte rest h e = (rest, ap first_typed h ∙ e, refl)
one_further text (b ∷ bytes) middle byte rest h e = (h.0, h.1, one_further h.0 bytes middle byte rest h.2 e)

-- The text of a pair.
abbrev text_of : Option (ℕ × List ℕ) → List ℕ
text_of None = []
text_of (Some pair) = pair.1

-- The text after a byte is shorter.
before_shorter : (r : Result (List ℕ) FromHexError) (text next : List ℕ) (byte : ℕ) → byte_before r text ≡ Some (byte, next) → next ≡ text
before_shorter (Ok []) text next byte e = cc
before_shorter (Ok (b ∷ [])) text next byte e = sym (ap text_of e)
before_shorter (Ok (b ∷ c ∷ bs)) text next byte e = cc
before_shorter (Err x) text next byte e = cc

dropped : (text : List ℕ) → length (drop 2 text) ≤ length text
dropped [] = omega arith
dropped (a ∷ []) = omega arith
dropped (a ∷ b ∷ text) = omega arith

letter_shorter : (o : Option ℕ) (text next : List ℕ) (byte : ℕ) → option_map {U = ℕ × List ℕ} (λ b. (b, text)) o ≡ Some (byte, next) → next ≡ text
letter_shorter None text next byte e = cc
letter_shorter (Some b) text next byte e = sym (ap text_of e)

escaped_shorter : (text next : List ℕ) (byte : ℕ) → escaped text ≡ Some (byte, next) → length next < length text
escaped_shorter [] next byte e = cc
escaped_shorter (c ∷ text) next byte e = by (c == 120) e where
  by : (b : Bool) → cond b (by_digits text) (option_map {U = ℕ × List ℕ} (λ byte. (byte, text)) (letter_byte c)) ≡ Some (byte, next) → length next < length (c ∷ text)
  by true e = let same = ap length (before_shorter _ (drop 2 text) next byte e) in let less = dropped text in omega (arith, same, less)
  by false e = let same = ap length (letter_shorter (letter_byte c) text next byte e) in omega (arith, same)

pub typed_shorter : (text next : List ℕ) (byte : ℕ) → first_typed text ≡ Some (byte, next) → length next < length text
typed_shorter [] next byte e = cc
typed_shorter (c ∷ text) next byte e = by (c == 92) e where
  by : (b : Bool) → cond b (escaped text) (Some (c, text)) ≡ Some (byte, next) → length next < length (c ∷ text)
  by true e = let less = escaped_shorter text next byte e in omega (arith, less)
  by false e = let same = ap length (ap text_of e) in omega (arith, same)
