-- Keys and names.
use Rattle.std.proofs.Common.{◌≡◌, ◌<◌, ◌≤◌, ◌-◌, ◌+◌, ℕ, zero, suc, Bool, true, cond, List, [], ◌∷◌, ◌++◌, length, map, take, drop, replicate, ◌&&◌, nat_lt, slice_index, refl, ap, sym, ◌∙◌, arith, rules}
use Rattle.std.specs.Prelude.{slice_set}
use Rattle.std.specs.List.{list_all, before_first}
use Rattle.std.proofs.lemmas.Bool.Decides.{nat_tests}
use Rattle.std.specs.Char.{to_ascii_uppercase}
use Rattle.std.proofs.lemmas.List.{drop-replicate, length-append, length-replicate, take_at, drop_at, take_all, append-nil}
use mathlib.Core.List.{append_assoc}
use Rattle.filenames.proofs.FieldLemmas.{both}
use Rattle.filenames.specs.Names.{Key, is_sayable, display_text, drive_text, type_text, is_allowed, is_blank, is_field, name_field, type_field, padded, key_of, is_valid}

abbrev blanks : ℕ → List ℕ
blanks n = replicate n 32

pub raised_length : (text : List ℕ) → length (map to_ascii_uppercase text) ≡ length text
raised_length [] = refl
raised_length (b ∷ bs) = ap suc (raised_length bs)

pub padded_length : (n : ℕ) (text : List ℕ) → length text ≤ n → length (padded n text) ≡ n
padded_length n text h =
    let all : length text + (n - length text) ≡ n = omega arith in
    length-append text (blanks (n - length text)) ∙ ap (λ k. length text + k) (length-replicate (n - length text) 32) ∙ all

-- A text written into a field of n blanks is the padded text.
written : (n : ℕ) (text : List ℕ) → map to_ascii_uppercase text ++ drop (length text) (blanks n) ≡ padded n (map to_ascii_uppercase text)
written n text = ap (λ rest. map to_ascii_uppercase text ++ rest) (drop-replicate (length text) n 32 ∙ ap (λ k. blanks (n - k)) (sym (raised_length text)))

raised_padded : (n : ℕ) (text : List ℕ) → length text ≤ n → length (padded n (map to_ascii_uppercase text)) ≡ n
raised_padded n text h = let same = raised_length text in padded_length n (map to_ascii_uppercase text) (omega arith)

-- Both fields, after the drive.
pub key_made : (drive : ℕ) (name kind first second : List ℕ) → length name ≤ 8 → length kind ≤ 3
    → first ≡ map to_ascii_uppercase name ++ drop (length name) (blanks 8)
    → second ≡ map to_ascii_uppercase kind ++ drop (length kind) (take 3 (drop 8 (first ++ 32 ∷ 32 ∷ 32 ∷ [])))
    → drive ∷ (take 8 (first ++ 32 ∷ 32 ∷ 32 ∷ []) ++ (second ++ drop 3 (drop 8 (first ++ 32 ∷ 32 ∷ 32 ∷ [])))) ≡ key_of drive name kind
key_made drive name kind first second n k f s =
    let f8 : first ≡ padded 8 (map to_ascii_uppercase name) = f ∙ written 8 name in
    let whole : length first ≡ 8 = ap length f8 ∙ raised_padded 8 name n in
    let rest : drop 8 (first ++ 32 ∷ 32 ∷ 32 ∷ []) ≡ 32 ∷ 32 ∷ 32 ∷ [] = drop_at first (32 ∷ 32 ∷ 32 ∷ []) 8 whole in
    let front : take 8 (first ++ 32 ∷ 32 ∷ 32 ∷ []) ≡ first = take_at first (32 ∷ 32 ∷ 32 ∷ []) 8 whole in
    let s3 : second ≡ padded 3 (map to_ascii_uppercase kind) = s ∙ ap (λ r. map to_ascii_uppercase kind ++ drop (length kind) (take 3 r)) rest ∙ written 3 kind in
    ap (λ r. drive ∷ (take 8 (first ++ 32 ∷ 32 ∷ 32 ∷ []) ++ (second ++ drop 3 r))) rest
    ∙ ap (λ x. drive ∷ (x ++ (second ++ []))) (front ∙ f8)
    ∙ ap (λ x. drive ∷ (padded 8 (map to_ascii_uppercase name) ++ (x ++ []))) s3
    ∙ simp append-nil

all_four : (a b c d : Bool) → a ≡ true → b ≡ true → c ≡ true → d ≡ true → (a && b && c && d) ≡ true
all_four a b c d p q r s = ap (λ x. x && b && c && d) p ∙ ap (λ x. x && c && d) q ∙ ap (λ x. x && d) r ∙ s

blank_field : (k : ℕ) → list_all is_blank (blanks k) ≡ true
blank_field zero = refl
blank_field (suc k) = blank_field k

only_blanks : (k : ℕ) → is_field (blanks k) ≡ true
only_blanks zero = refl
only_blanks (suc k) = blank_field k

-- Bytes of a name and then blanks are a field.
field_of : (text : List ℕ) (k : ℕ) → list_all is_allowed text ≡ true → is_field (text ++ blanks k) ≡ true
field_of [] k h = only_blanks k
field_of (b ∷ bs) k h =
    let p = both (is_allowed b) (list_all is_allowed bs) h in
    ap (λ x. cond x (is_field (bs ++ blanks k)) (list_all is_blank (b ∷ (bs ++ blanks k)))) p.0 ∙ field_of bs k p.1

-- The key of a name is valid.
pub key_is_sayable : (drive : ℕ) (name kind : List ℕ) → drive < 4 → 0 < length name → length name ≤ 8 → length kind ≤ 3 → is_valid name ≡ true → is_valid kind ≡ true
    → is_sayable (key_of drive name kind) ≡ true
unfolding is_sayable
key_is_sayable drive [] kind d h n k v w = absurd (omega arith)
key_is_sayable drive (b ∷ bs) kind d h n k v w =
    let name = b ∷ bs in
    let p8 = padded 8 (map to_ascii_uppercase name) in
    let p3 = padded 3 (map to_ascii_uppercase kind) in
    let l8 = raised_padded 8 name n in
    let l3 = raised_padded 3 kind k in
    all_four (nat_lt drive 4) (is_allowed (to_ascii_uppercase b)) (is_field (take 8 (p8 ++ p3))) (is_field (take 3 (drop 8 (p8 ++ p3))))
    (search rules)
    (both (is_allowed (to_ascii_uppercase b)) (list_all is_allowed (map to_ascii_uppercase bs)) v).0
    (ap is_field (take_at p8 p3 8 l8) ∙ field_of (map to_ascii_uppercase name) (8 - length (map to_ascii_uppercase name)) v)
    (ap (λ x. is_field (take 3 x)) (drop_at p8 p3 8 l8) ∙ ap is_field (take_all 3 p3 (let e = l3 in omega arith)) ∙ field_of (map to_ascii_uppercase kind) (3 - length (map to_ascii_uppercase kind)) w)

-- The facts about a valid key.
pub record Sayable (key : Key) : Type 0 where
  pub drive : nat_lt (slice_index key 0) 4 ≡ true
  pub first : is_allowed (slice_index key 1) ≡ true
  pub name : is_field (name_field key) ≡ true
  pub kind : is_field (type_field key) ≡ true

pub sayable_parts : (key : Key) → is_sayable key ≡ true → Sayable key
unfolding is_sayable
sayable_parts key h =
    let a = both (nat_lt (slice_index key 0) 4 && is_allowed (slice_index key 1) && is_field (name_field key)) (is_field (type_field key)) h in
    let b = both (nat_lt (slice_index key 0) 4 && is_allowed (slice_index key 1)) (is_field (name_field key)) a.0 in
    let d = both (nat_lt (slice_index key 0) 4) (is_allowed (slice_index key 1)) b.0 in
    record { drive = d.0; first = d.1; name = b.1; kind = a.1 }

pub drive_below : (drive : ℕ) → nat_lt drive 4 ≡ true → drive < 4
drive_below drive h = grind (arith, nat_tests)

below_four : (drive : ℕ) → drive < 4 → nat_lt drive 4 ≡ true
below_four drive d = grind (arith, nat_tests)

-- A name on another drive is a name.
pub moved_is_sayable : (key : Key) (drive : ℕ) → length key ≡ 12 → drive < 4 → is_sayable key ≡ true → is_sayable (slice_set key 0 drive) ≡ true
unfolding is_sayable
moved_is_sayable [] drive n d s = absurd (omega arith)
moved_is_sayable (k ∷ ks) drive n d s =
    let parts = sayable_parts (k ∷ ks) s in
    all_four (nat_lt drive 4) (is_allowed (slice_index (drive ∷ ks) 1)) (is_field (name_field (drive ∷ ks))) (is_field (type_field (drive ∷ ks)))
    (below_four drive d) parts.first parts.name parts.kind

-- The pieces of a printed name, in order.
pub printed_pieces : (key drive name dot kind : List ℕ) → drive ≡ drive_text (slice_index key 0) → name ≡ before_first is_blank (name_field key) → kind ≡ before_first is_blank (type_field key) → dot ++ kind ≡ type_text kind
    → ((drive ++ name) ++ dot) ++ kind ≡ display_text key
unfolding display_text
printed_pieces key drive name dot kind d n k before =
    append_assoc (drive ++ name) dot kind
    ∙ ap (λ x. (x ++ name) ++ (dot ++ kind)) d ∙ ap (λ x. (drive_text (slice_index key 0) ++ x) ++ (dot ++ kind)) n
    ∙ ap (λ x. (drive_text (slice_index key 0) ++ before_first is_blank (name_field key)) ++ x) (before ∙ ap type_text k)
