-- Texts in fields.
use Rattle.std.proofs.Common.{◌≡◌, ◌<◌, ◌≤◌, ◌+◌, ℕ, zero, suc, Bool, true, false, cond, ◌&&◌, List, [], ◌∷◌, ◌++◌, length, map, take, drop, set, get_or, refl, ap, ◌∙◌, arith}
use Rattle.std.proofs.lemmas.Bool.Decides.{nat_tests}
use Rattle.std.proofs.lemmas.Str.{IsUtf8-from_ascii, IsAscii-take}
use Rattle.std.proofs.lemmas.Str.Ascii.{IsAscii-nil, IsAscii-cons}
use Rattle.std.specs.List.{list_all}
use Rattle.std.specs.Str.{IsAscii, IsUtf8}
use Rattle.filenames.specs.Names.{is_allowed, is_blank, is_field}

pub both : (a b : Bool) → (a && b) ≡ true → (a ≡ true) × (b ≡ true)
both true b h = (refl, h)
both false b h = cc

written_at : (f : ℕ → ℕ) (xs ys : List ℕ) (i : ℕ) → i < length xs → length xs ≤ length ys → set (map f (take i xs) ++ drop i ys) i (f (get_or xs i 0)) ≡ map f (take (suc i) xs) ++ drop (suc i) ys
written_at f [] ys i h l = absurd (omega arith)
written_at f (x ∷ xs) [] i h l = absurd (omega arith)
written_at f (x ∷ xs) (y ∷ ys) zero h l = refl
written_at f (x ∷ xs) (y ∷ ys) (suc i) h l = ap (λ zs. f x ∷ zs) (written_at f xs ys i (omega arith) (omega arith))

-- One more byte is written.
pub written_more : (f : ℕ → ℕ) (xs ys : List ℕ) (i : ℕ) → i < length xs → length xs ≤ length ys → set (map f (take i xs) ++ drop i ys) i (f (get_or xs i 0)) ≡ map f (take (i + 1) xs) ++ drop (i + 1) ys
written_more f xs ys i h l = let one : suc i ≡ i + 1 = omega arith in written_at f xs ys i h l ∙ ap (λ n. map f (take n xs) ++ drop n ys) one

-- The first element and the rest of a list from an index within it.
rest_at : (xs : List ℕ) (i : ℕ) → i < length xs → drop i xs ≡ get_or xs i 0 ∷ drop (suc i) xs
rest_at [] i h = absurd (omega arith)
rest_at (x ∷ xs) zero h = refl
rest_at (x ∷ xs) (suc i) h = rest_at xs i (omega arith)

pub rest_of : (xs : List ℕ) (i : ℕ) → i < length xs → drop i xs ≡ get_or xs i 0 ∷ drop (i + 1) xs
rest_of xs i h = let one : suc i ≡ i + 1 = omega arith in rest_at xs i h ∙ ap (λ n. get_or xs i 0 ∷ drop n xs) one

allowed_ascii : (b : ℕ) → is_allowed b ≡ true → b < 128
allowed_ascii b h = grind (arith, nat_tests)

blank_ascii : (b : ℕ) → is_blank b ≡ true → b < 128
blank_ascii b h = grind (arith, nat_tests)

blanks_ascii : (bs : List ℕ) → list_all is_blank bs ≡ true → IsAscii bs
blanks_ascii [] h = IsAscii-nil
blanks_ascii (b ∷ bs) h = let p = both (is_blank b) (list_all is_blank bs) h in IsAscii-cons b bs (blank_ascii b p.0) (blanks_ascii bs p.1)

field_ascii : (bs : List ℕ) → is_field bs ≡ true → IsAscii bs
field_ascii [] h = IsAscii-nil
field_ascii (b ∷ bs) h = elim (is_allowed b) as (λ t. is_allowed b ≡ t → cond t (is_field bs) (list_all is_blank (b ∷ bs)) ≡ true → IsAscii (b ∷ bs)) [
  | true ↦ λ t r. IsAscii-cons b bs (allowed_ascii b t) (field_ascii bs r)
  | false ↦ λ t r. blanks_ascii (b ∷ bs) r
] refl h

-- The bytes of a field are valid UTF-8.
pub field_is_text : (n : ℕ) (bs : List ℕ) → is_field bs ≡ true → IsUtf8 (take n bs)
field_is_text n bs h = IsUtf8-from_ascii (take n bs) (IsAscii-take bs n (field_ascii bs h))
