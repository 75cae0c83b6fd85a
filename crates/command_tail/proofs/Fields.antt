-- Fields from parts of names.
use Rattle.std.proofs.Common.{◌≡◌, ℕ, suc, ◌+◌, ◌-◌, ◌≤◌, inl, inr, Bool, true, false, cond, List, [], ◌∷◌, ◌++◌, length, take, drop, replicate, nat_lt, min, refl, sym, ◌∙◌, ap, arith}
use Rattle.std.specs.List.{list_any, before_first, after_first, position_or_len}
use Rattle.std.proofs.lemmas.List.{take-replicate, drop-replicate, drop_all, take-take, take-append-le, length-append, length-replicate, length-take-le, take_at, drop_at, append-nil}
use Rattle.std.proofs.lemmas.Bool.Decides.{nat_tests, leb_tells}
use Rattle.std.proofs.Math.Seq.{take-append-add}
use Rattle.std.proofs.Math.Nat.{min-eq_left, min-eq_right}
use Rattle.command_tail.specs.Words.{is_star, field_of, drive_byte, name_text, drive_and_name}
use Rattle.filenames.specs.Names.{is_dot}

one_on : (n m : ℕ) → nat_lt n m ≡ nat_lt (1 + n) (suc m)
one_on n m = grind (arith, nat_tests)

zero_below : (m : ℕ) → true ≡ nat_lt 0 (suc m)
zero_below m = grind (arith, nat_tests)

-- A list has a byte that passes exactly if the index of the first such byte is below its length.
any_within : (p : ℕ → Bool) (xs : List ℕ) → list_any p xs ≡ nat_lt (position_or_len p xs) (length xs)
any_within p [] = refl
any_within p (x ∷ xs) = elim (p x) as (λ b. p x ≡ b → list_any p (x ∷ xs) ≡ nat_lt (position_or_len p (x ∷ xs)) (length (x ∷ xs))) [
  | true ↦ λ e. rw e (zero_below (length xs))
  | false ↦ λ e. rw e (any_within p xs ∙ one_on _ _)
] refl

-- A field of blanks or `?`, with a part written over its beginning.
pub field_made : (n star rest : ℕ) (part : List ℕ) → star ≤ length part → star ≤ n → take star part ++ drop star (replicate n rest) ≡ take n (take star part ++ replicate n rest)
field_made n star rest part within short =
    let front : length (take star part) ≡ star = length-take-le star part within in
    let more : star + (n - star) ≡ n = omega arith in
    ap (λ r. take star part ++ r) (drop-replicate star n rest ∙ sym (take-replicate (n - star) n rest (omega arith)))
    ∙ sym (take-append-add (take star part) (replicate n rest) (n - star)) ∙ ap (λ k. take k (take star part ++ replicate n rest)) (ap (λ k. k + (n - star)) front ∙ more)

-- A field with a part that is longer.
pub field_cut : (n star rest : ℕ) (part : List ℕ) → star ≤ length part → n ≤ star → take n part ++ drop n (replicate n rest) ≡ take n (take star part ++ replicate n rest)
field_cut n star rest part within long =
    let front : length (take star part) ≡ star = length-take-le star part within in
    let none : length (replicate n rest) ≤ n = omega (arith, length-replicate n rest) in
    ap (λ r. take n part ++ r) (drop_all n (replicate n rest) none) ∙ append-nil (take n part)
    ∙ sym (take-append-le n (take star part) (replicate n rest) (omega arith) ∙ take-take n star part long)

pub length_field : (n : ℕ) (part : List ℕ) → length (field_of n part) ≡ n
length_field n part = length-take-le n _ (omega (arith, length-append {A = ℕ}, length-replicate {A = ℕ}))

length_fields : (name kind : List ℕ) → length (field_of 8 name ++ field_of 3 kind) ≡ 11
length_fields name kind = length-append (field_of 8 name) (field_of 3 kind) ∙ ap (λ n. n + length (field_of 3 kind)) (length_field 8 name) ∙ ap (λ n. 8 + n) (length_field 3 kind)

pub length_named : (word : List ℕ) → length (drive_and_name word) ≡ 12
unfolding drive_and_name
length_named word = ap suc (length_fields (before_first is_dot (name_text word)) (before_first is_dot (after_first is_dot (name_text word))))

-- The fields after the drive byte.
pub fields_made : (drive : ℕ) (name kind first second spare : List ℕ) → length spare ≡ 3 → first ≡ field_of 8 name → second ≡ field_of (length (take 3 (drop 8 (first ++ spare)))) kind
    → drive ∷ (take 8 (first ++ spare) ++ (second ++ drop 3 (drop 8 (first ++ spare)))) ≡ drive ∷ (field_of 8 name ++ field_of 3 kind)
fields_made drive name kind first second spare three f s =
    let eight : length first ≡ 8 = ap length f ∙ length_field 8 name in
    let behind : drop 8 (first ++ spare) ≡ spare = drop_at first spare 8 eight in
    let none : drop 3 (drop 8 (first ++ spare)) ≡ [] = ap (drop 3) behind ∙ drop_all 3 spare (omega arith) in
    let count : length (take 3 (drop 8 (first ++ spare))) ≡ 3 = ap (λ r. length (take 3 r)) behind ∙ length-take-le 3 spare (omega arith) in
    ap (λ r. drive ∷ (take 8 (first ++ spare) ++ (second ++ r))) none
    ∙ ap (λ r. drive ∷ (r ++ (second ++ []))) (take_at first spare 8 eight ∙ f)
    ∙ ap (λ r. drive ∷ (field_of 8 name ++ r)) (append-nil second ∙ s ∙ ap (λ n. field_of n kind) count)

-- The byte that fills the rest of a field.
abbrev pub filling : Bool → ℕ
filling b = cond b 63 32

pub rest_is : (star : ℕ) (part : List ℕ) → star ≡ position_or_len is_star part → filling (nat_lt star (length part)) ≡ filling (list_any is_star part)
rest_is star part e = ap filling (ap (λ n. nat_lt n (length part)) e ∙ sym (any_within is_star part))

-- A field that was filled, and then written over from its beginning.
pub field_filled : (n star end rest : ℕ) (part filled front : List ℕ) → star ≡ position_or_len is_star part → star ≤ length part → end ≡ min star n
    → rest ≡ filling (nat_lt star (length part)) → filled ≡ replicate n rest → front ≡ take end part → front ++ drop end filled ≡ field_of n part
field_filled n star end rest part filled front place within e r f t = elim (leb_tells n star) [
  | inl long ↦ parts (e ∙ min-eq_right long.1) ∙ field_cut n star rest part within long.1 ∙ whole
  | inr short ↦ let fits : star ≤ n = omega (arith, short.1) in parts (e ∙ min-eq_left fits) ∙ field_made n star rest part within fits ∙ whole
] where
  parts : {k : ℕ} → end ≡ k → front ++ drop end filled ≡ take k part ++ drop k (replicate n rest)
  parts {k} s = ap (λ l. l ++ drop end filled) t ∙ ap (λ l. take end part ++ drop end l) f ∙ ap (λ i. take i part ++ drop i (replicate n rest)) s

  whole : take n (take star part ++ replicate n rest) ≡ field_of n part
  whole = ap (λ k. take n (take k part ++ replicate n rest)) place ∙ ap (λ x. take n (before_first is_star part ++ replicate n x)) (r ∙ rest_is star part place)

-- The fields of a word, from its parts before and after the dots.
pub name_named : (word : List ℕ) (drive : ℕ) (text name behind kind : List ℕ) → drive ≡ drive_byte word → text ≡ name_text word → name ≡ before_first is_dot text → behind ≡ after_first is_dot text
    → kind ≡ before_first is_dot behind → drive ∷ (field_of 8 name ++ field_of 3 kind) ≡ drive_and_name word
unfolding drive_and_name
name_named word drive text name behind kind d t n b k =
    ap (λ x. x ∷ (field_of 8 name ++ field_of 3 kind)) d
    ∙ ap (λ x. drive_byte word ∷ (field_of 8 x ++ field_of 3 kind)) (n ∙ ap (before_first is_dot) t)
    ∙ ap (λ x. drive_byte word ∷ (field_of 8 (before_first is_dot (name_text word)) ++ field_of 3 x)) (k ∙ ap (before_first is_dot) (b ∙ ap (after_first is_dot) t))
