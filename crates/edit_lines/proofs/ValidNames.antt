-- A word that is a valid name is ASCII.
use Rattle.std.proofs.Common.{is_some, not, rules, ◌≡◌, ◌<◌, ◌+◌, ℕ, suc, Bool, true, false, cond, ◌&&◌, ◌||◌, ◌==◌, nat_lt, List, [], ◌∷◌, length, take, drop, Option, Some, None, Result, Ok, Err, refl, sym, ap, ◌∙◌, arith}
use Rattle.std.specs.List.{prefix_len, before_first, after_first}
use Rattle.std.specs.Str.{IsAscii, IsUtf8}
use Rattle.std.specs.Char.{to_ascii_uppercase}
use Rattle.std.proofs.lemmas.Bool.Decides.{nat_tests}
use Rattle.std.proofs.lemmas.Str.{IsUtf8-from_ascii}
use Rattle.std.proofs.lemmas.Str.Ascii.{IsAscii-nil, IsAscii-cons}
use Rattle.filenames.specs.Names.{Key, is_allowed, is_dot, is_colon, is_valid, key_or_refusal, name_without_drive, key_of, drive_of, name_on_drive, name_of}
use Rattle.filenames.proofs.FieldLemmas.{both}

raised_ascii : (b : ℕ) → is_allowed (to_ascii_uppercase b) ≡ true → b < 128
raised_ascii b h = grind (arith, nat_tests)

valid_ascii : (text : List ℕ) → is_valid text ≡ true → IsAscii text
valid_ascii [] h = IsAscii-nil
valid_ascii (b ∷ bs) h = let p = both (is_allowed (to_ascii_uppercase b)) (is_valid bs) h in IsAscii-cons b bs (raised_ascii b p.0) (valid_ascii bs p.1)

dot_ascii : (b : ℕ) → is_dot b ≡ true → b < 128
dot_ascii b h = grind (arith, nat_tests)

-- The name before a dot and the type after it.
halves_ascii : (text : List ℕ) → is_valid (before_first is_dot text) ≡ true → is_valid (after_first is_dot text) ≡ true → IsAscii text
halves_ascii [] n k = IsAscii-nil
halves_ascii (b ∷ bs) n k =
    let m = prefix_len (λ c. not (is_dot c)) bs in
    elim (is_dot b) as (λ t. is_dot b ≡ t → is_valid (take (cond (not t) (1 + prefix_len (λ c. not (is_dot c)) bs) 0) (b ∷ bs)) ≡ true
    → is_valid (drop (cond (not t) (1 + prefix_len (λ c. not (is_dot c)) bs) 0 + 1) (b ∷ bs)) ≡ true → IsAscii (b ∷ bs)) [
      | true ↦ λ t n k. IsAscii-cons b bs (dot_ascii b t) (valid_ascii bs k)
      | false ↦ λ t n k.
          let first : 1 + m ≡ suc m = omega arith in
          let second : 1 + m + 1 ≡ suc (m + 1) = omega arith in
          let front = both (is_allowed (to_ascii_uppercase b)) (is_valid (take m bs)) (sym (ap (λ j. is_valid (take j (b ∷ bs))) first) ∙ n) in
          IsAscii-cons b bs (raised_ascii b front.0) (halves_ascii bs front.1 (sym (ap (λ j. is_valid (drop j (b ∷ bs))) second) ∙ k))
    ] refl n k

abbrev chosen : Bool → Bool → Bool → Key → Result Key ℕ
chosen a b c key = cond a (Err 1) (cond b (Err 2) (cond c (Ok key) (Err 3)))

named_valid : (drive : ℕ) (name kind key : List ℕ) → key_or_refusal drive name kind ≡ Ok key → (is_valid name ≡ true) × (is_valid kind ≡ true)
unfolding key_or_refusal
named_valid drive name kind key h =
    by (length name == 0) (nat_lt 8 (length name) || nat_lt 3 (length kind)) (is_valid name && is_valid kind) (λ e. both (is_valid name) (is_valid kind) e) h where
      by : {P : Type 0} (a b c : Bool) → (c ≡ true → P) → chosen a b c (key_of drive name kind) ≡ Ok key → P
      by true b c f h = cc
      by false true c f h = cc
      by false false true f h = f refl
      by false false false f h = cc

plain_ascii : (drive : ℕ) (text key : List ℕ) → name_without_drive drive text ≡ Ok key → IsAscii text
plain_ascii drive text key h = let p = named_valid drive (before_first is_dot text) (after_first is_dot text) key h in halves_ascii text p.0 p.1

letter_ascii : (b : ℕ) → is_some (drive_of b) ≡ true → b < 128
letter_ascii b h = grind (arith, nat_tests)

colon_ascii : (b : ℕ) → is_colon b ≡ true → b < 128
colon_ascii b h = grind (arith, nat_tests)

drive_ascii : (d : Option ℕ) (text key : List ℕ) → name_on_drive d text ≡ Ok key → (is_some d ≡ true) × IsAscii text
drive_ascii None text key h = cc
drive_ascii (Some drive) text key h = (refl, plain_ascii drive text key h)

-- A name of two bytes or more.
letter_or_plain : (a b : ℕ) (bs key : List ℕ) (t : Bool) → is_colon b ≡ t → cond t (name_on_drive (drive_of a) bs) (name_without_drive 0 (a ∷ b ∷ bs)) ≡ Ok key → IsAscii (a ∷ b ∷ bs)
letter_or_plain a b bs key true t h = let p = drive_ascii (drive_of a) bs key h in IsAscii-cons a (b ∷ bs) (letter_ascii a p.0) (IsAscii-cons b bs (colon_ascii b t) p.1)
letter_or_plain a b bs key false t h = plain_ascii 0 (a ∷ b ∷ bs) key h

said_ascii : (text key : List ℕ) → name_of text ≡ Ok key → IsAscii text
unfolding name_of
said_ascii [] key h = IsAscii-nil
said_ascii (a ∷ []) key h = plain_ascii 0 (a ∷ []) key h
said_ascii (a ∷ b ∷ bs) key h =
    let more : nat_lt 1 (suc (suc (length bs))) ≡ true = search rules in
    letter_or_plain a b bs key (is_colon b) refl (sym (ap (λ t. cond (t && is_colon b) (name_on_drive (drive_of a) bs) (name_without_drive 0 (a ∷ b ∷ bs))) more) ∙ h)

pub said_text : (text key : List ℕ) → name_of text ≡ Ok key → IsUtf8 text
said_text text key h = IsUtf8-from_ascii text (said_ascii text key h)
