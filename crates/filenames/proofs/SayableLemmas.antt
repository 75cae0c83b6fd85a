-- The key of a name is valid.
use Rattle.std.proofs.Common.{◌≡◌, ◌<◌, ◌≤◌, ◌-◌, ◌==◌, ℕ, Bool, true, false, cond, List, length, map, drop, ◌&&◌, ◌||◌, nat_lt, nat_le, slice_index, Option, Some, None, refl, ap, sym, ◌∙◌, arith}
use Rattle.std.specs.Prelude.{Result, Ok, Err}
use Rattle.std.specs.List.{before_first, after_first}
use Rattle.std.specs.Char.{to_ascii_uppercase}
use Rattle.std.proofs.lemmas.Bool.Decides.{nat_tests}
use Rattle.std.proofs.lemmas.List.{length-append}
use Rattle.filenames.proofs.FieldLemmas.{both}
use Rattle.filenames.proofs.NameLemmas.{key_is_sayable, padded_length, raised_length}
use Rattle.filenames.specs.Names.{Key, is_dot, is_valid, padded, key_of, key_or_refusal, name_without_drive, drive_of, name_on_drive, has_drive, name_of, is_sayable}

-- The facts about the key of a name.
abbrev IsKey : Key → Type 0
IsKey key = (length key ≡ 12) × (is_sayable key ≡ true)

-- The two tests of lengths, of a name and of its type.
not_long : (a b : ℕ) → (nat_lt 8 a || nat_lt 3 b) ≡ false → (a ≤ 8) × (b ≤ 3)
not_long a b h = (grind (arith, nat_tests), grind (arith, nat_tests))

some_bytes : (n : ℕ) → (n == 0) ≡ false → 0 < n
some_bytes n h = grind (arith, nat_tests)

key_length : (drive : ℕ) (name kind : List ℕ) → length name ≤ 8 → length kind ≤ 3 → length (key_of drive name kind) ≡ 12
key_length drive name kind n k =
    let ln = raised_length name in
    let lk = raised_length kind in
    let a = padded_length 8 (map to_ascii_uppercase name) (omega arith) in
    let b = padded_length 3 (map to_ascii_uppercase kind) (omega arith) in
    let whole = length-append (padded 8 (map to_ascii_uppercase name)) (padded 3 (map to_ascii_uppercase kind)) in
    omega arith

key_is : (drive : ℕ) (name kind : List ℕ) → drive < 4 → (length name == 0) ≡ false → (nat_lt 8 (length name) || nat_lt 3 (length kind)) ≡ false → (is_valid name && is_valid kind) ≡ true → IsKey (key_of drive name kind)
key_is drive name kind d some long valid =
    let fits = not_long (length name) (length kind) long in
    let parts = both (is_valid name) (is_valid kind) valid in
    (key_length drive name kind fits.0 fits.1, key_is_sayable drive name kind d (some_bytes (length name) some) fits.0 fits.1 parts.0 parts.1)

-- The tests, in their order.
tested : (empty long valid : Bool) (made key : Key) → (empty ≡ false → long ≡ false → valid ≡ true → IsKey made) → cond {A = Result Key ℕ} empty (Err 1) (cond {A = Result Key ℕ} long (Err 2) (cond {A = Result Key ℕ} valid (Ok made) (Err 3))) ≡ Ok key → IsKey key
tested true long valid made key is e = cc
tested false true valid made key is e = cc
tested false false false made key is e = cc
tested false false true made key is e = let same : made ≡ key = cc in let p = is refl refl refl in (ap length (sym same) ∙ p.0, ap is_sayable (sym same) ∙ p.1)

named_is_key : (drive : ℕ) (name kind : List ℕ) (key : Key) → drive < 4 → key_or_refusal drive name kind ≡ Ok key → IsKey key
unfolding key_or_refusal
named_is_key drive name kind key d e =
    tested (length name == 0) (nat_lt 8 (length name) || nat_lt 3 (length kind)) (is_valid name && is_valid kind) (key_of drive name kind) key (key_is drive name kind d) e

-- A letter's drive is below 4.
letter_of : (is : Bool) (raised : ℕ) (drive : ℕ) → (is ≡ true → raised - 65 < 4) → cond is (Some (raised - 65)) None ≡ Some drive → drive < 4
letter_of false raised drive low e = cc
letter_of true raised drive low e = let same : raised - 65 ≡ drive = cc in let h = low refl in omega arith

four_letters : (raised : ℕ) → (nat_le 65 raised && nat_le raised 68) ≡ true → raised - 65 < 4
four_letters raised h = grind (arith, nat_tests)

drive_below_four : (letter drive : ℕ) → drive_of letter ≡ Some drive → drive < 4
drive_below_four letter drive e = letter_of (nat_le 65 (to_ascii_uppercase letter) && nat_le (to_ascii_uppercase letter) 68) (to_ascii_uppercase letter) drive (four_letters (to_ascii_uppercase letter)) e

on_drive_is_key : (o : Option ℕ) (text : List ℕ) (key : Key) → ((drive : ℕ) → o ≡ Some drive → drive < 4) → name_on_drive o text ≡ Ok key → IsKey key
on_drive_is_key None text key low e = cc
on_drive_is_key (Some drive) text key low e = named_is_key drive (before_first is_dot text) (after_first is_dot text) key (low drive refl) e

either_way : (has : Bool) (text : List ℕ) (key : Key) → cond has (name_on_drive (drive_of (slice_index text 0)) (drop 2 text)) (name_without_drive 0 text) ≡ Ok key → IsKey key
either_way true text key e = on_drive_is_key (drive_of (slice_index text 0)) (drop 2 text) key (drive_below_four (slice_index text 0)) e
either_way false text key e = named_is_key 0 (before_first is_dot text) (after_first is_dot text) key (omega arith) e

pub names_are_sayable : (text : List ℕ) (key : Key) → name_of text ≡ Ok key → (length key ≡ 12) × (is_sayable key ≡ true)
unfolding name_of
names_are_sayable text key e = either_way (has_drive text) text key e
