-- A printed name is parsed as its key.
use Rattle.std.proofs.Common.{◌≡◌, ◌<◌, ◌≤◌, ◌-◌, ◌+◌, ◌==◌, ℕ, zero, suc, Bool, true, false, cond, List, [], ◌∷◌, ◌++◌, length, map, take, drop, replicate, ◌&&◌, ◌||◌, not, nat_lt, slice_index, refl, ap, sym, subst, ◌∙◌, arith, rules}
use Rattle.std.specs.Prelude.{Ok, Err}
use Rattle.std.specs.List.{list_all, before_first, after_first, position_or_len}
use Rattle.std.specs.Char.{to_ascii_uppercase}
use Rattle.std.proofs.lemmas.Bool.Decides.{nat_tests}
use Rattle.std.proofs.lemmas.List.{append-nil, take_at, take_all, drop_all, length-drop, length-take-le, take-append-drop, append_assoc}
use Rattle.filenames.proofs.NameLemmas.{sayable_parts, drive_below}
use Rattle.std.proofs.Math.Seq.{take-length}
use Rattle.filenames.specs.Names.{Key, is_allowed, is_blank, is_dot, is_colon, is_field, is_valid, padded, key_of, key_or_refusal, name_without_drive, drive_of, name_on_drive, has_drive, name_of, drive_text, type_text, display_text, is_sayable}
use Rattle.filenames.proofs.FieldLemmas.{both}

allowed_is_raised : (b : ℕ) → is_allowed b ≡ true → to_ascii_uppercase b ≡ b
allowed_is_raised b h = grind (arith, nat_tests)

allowed_no_blank : (b : ℕ) → is_allowed b ≡ true → is_blank b ≡ false
allowed_no_blank b h = grind (arith, nat_tests)

allowed_no_dot : (b : ℕ) → is_allowed b ≡ true → is_dot b ≡ false
allowed_no_dot b h = grind (arith, nat_tests)

allowed_no_colon : (b : ℕ) → is_allowed b ≡ true → (b == 58) ≡ false
allowed_no_colon b h = grind (arith, nat_tests)

-- ---- the elements before and after the first one that passes

count_end : (p : ℕ → Bool) → ((b : ℕ) → is_allowed b ≡ true → p b ≡ false) → (xs : List ℕ) → list_all is_allowed xs ≡ true → position_or_len p xs ≡ length xs
count_end p no_p [] h = refl
count_end p no_p (b ∷ bs) h =
    let parts = both (is_allowed b) (list_all is_allowed bs) h in
    let next : 1 + length bs ≡ suc (length bs) = omega arith in
    ap (λ t. cond (not t) (1 + position_or_len p bs) 0) (no_p b parts.0) ∙ ap (λ n. 1 + n) (count_end p no_p bs parts.1) ∙ next

count_at : (p : ℕ → Bool) → ((b : ℕ) → is_allowed b ≡ true → p b ≡ false) → (xs : List ℕ) (y : ℕ) (ys : List ℕ) → list_all is_allowed xs ≡ true → p y ≡ true → position_or_len p (xs ++ (y ∷ ys)) ≡ length xs
count_at p no_p [] y ys h stop = ap (λ t. cond (not t) (1 + position_or_len p ys) 0) stop
count_at p no_p (b ∷ bs) y ys h stop =
    let parts = both (is_allowed b) (list_all is_allowed bs) h in
    let next : 1 + length bs ≡ suc (length bs) = omega arith in
    ap (λ t. cond (not t) (1 + position_or_len p (bs ++ (y ∷ ys))) 0) (no_p b parts.0) ∙ ap (λ n. 1 + n) (count_at p no_p bs y ys parts.1 stop) ∙ next

rest_at : (xs : List ℕ) (y : ℕ) (ys : List ℕ) → drop (length xs + 1) (xs ++ (y ∷ ys)) ≡ ys
rest_at [] y ys = refl
rest_at (x ∷ xs) y ys =
    let next : suc (length xs) + 1 ≡ suc (length xs + 1) = omega arith in
    ap (λ n. drop n (x ∷ (xs ++ (y ∷ ys)))) next ∙ rest_at xs y ys

-- ---- fields

is_32 : (b : ℕ) → is_blank b ≡ true → b ≡ 32
is_32 b h = grind (arith, nat_tests)

only_blanks : (xs : List ℕ) → list_all is_blank xs ≡ true → xs ≡ replicate (length xs) 32
only_blanks [] h = refl
only_blanks (b ∷ bs) h =
    let parts = both (is_blank b) (list_all is_blank bs) h in
    ap (λ x. x ∷ bs) (is_32 b parts.0) ∙ ap (λ xs. 32 ∷ xs) (only_blanks bs parts.1)

-- A field is its text, padded with blanks.
record FieldText (xs : List ℕ) (text : List ℕ) : Type 0 where
  allowed : list_all is_allowed text ≡ true
  short : length text ≤ length xs
  filled : xs ≡ text ++ replicate (length xs - length text) 32

take_turn : (n b : ℕ) (bs : List ℕ) → take (1 + n) (b ∷ bs) ≡ b ∷ take n bs
take_turn n b bs = let next : 1 + n ≡ suc n = omega arith in ap (λ m. take m (b ∷ bs)) next

field_text : (xs : List ℕ) → is_field xs ≡ true → FieldText xs (before_first is_blank xs)
field_text [] h = record { allowed = refl; short = omega arith; filled = refl }
field_text (b ∷ bs) h = elim (is_allowed b) as (λ t. is_allowed b ≡ t → cond t (is_field bs) (list_all is_blank (b ∷ bs)) ≡ true → FieldText (b ∷ bs) (before_first is_blank (b ∷ bs))) [
  | true ↦ λ t r.
      let rest = field_text bs r in
      let here : before_first is_blank (b ∷ bs) ≡ b ∷ before_first is_blank bs = ap (λ t. take (cond (not t) (1 + position_or_len is_blank bs) 0) (b ∷ bs)) (allowed_no_blank b t) ∙ take_turn (position_or_len is_blank bs) b bs in
      subst (FieldText (b ∷ bs)) (sym here) (record {
        allowed = ap (λ x. x && list_all is_allowed (before_first is_blank bs)) t ∙ rest.allowed;
        short = (let s = rest.short in omega arith);
        filled =
            let same : length bs - length (before_first is_blank bs) ≡ suc (length bs) - suc (length (before_first is_blank bs)) = omega arith in
            ap (λ xs. b ∷ xs) rest.filled ∙ ap (λ n. b ∷ (before_first is_blank bs ++ replicate n 32)) same;
      })
  | false ↦ λ t r.
      let blank = both (is_blank b) (list_all is_blank bs) r in
      let here : before_first is_blank (b ∷ bs) ≡ [] = ap (λ t. take (cond (not t) (1 + position_or_len is_blank bs) 0) (b ∷ bs)) blank.0 in
      subst (FieldText (b ∷ bs)) (sym here) (record { allowed = refl; short = omega arith; filled = (let all : suc (length bs) ≡ suc (length bs) - 0 = omega arith in only_blanks (b ∷ bs) r ∙ ap (λ n. replicate n 32) all) })
] refl h

-- ---- names

raised_again : (xs : List ℕ) → list_all is_allowed xs ≡ true → map to_ascii_uppercase xs ≡ xs
raised_again [] h = refl
raised_again (b ∷ bs) h =
    let parts = both (is_allowed b) (list_all is_allowed bs) h in
    ap (λ x. x ∷ map to_ascii_uppercase bs) (allowed_is_raised b parts.0) ∙ ap (λ xs. b ∷ xs) (raised_again bs parts.1)

-- Name and type are separated at the `.`, if there is one.
cut_name : (name kind : List ℕ) → list_all is_allowed name ≡ true → before_first is_dot (name ++ type_text kind) ≡ name
cut_name name [] n = ap (λ t. take (position_or_len is_dot t) t) (append-nil name) ∙ ap (λ c. take c name) (count_end is_dot allowed_no_dot name n) ∙ take-length name
cut_name name (b ∷ bs) n = ap (λ c. take c (name ++ (46 ∷ b ∷ bs))) (count_at is_dot allowed_no_dot name 46 (b ∷ bs) n refl) ∙ take_at name (46 ∷ b ∷ bs) (length name) refl

cut_kind : (name kind : List ℕ) → list_all is_allowed name ≡ true → after_first is_dot (name ++ type_text kind) ≡ kind
cut_kind name [] n =
    let past : length name ≤ length name + 1 = omega arith in
    ap (λ t. drop (position_or_len is_dot t + 1) t) (append-nil name) ∙ ap (λ c. drop (c + 1) name) (count_end is_dot allowed_no_dot name n) ∙ drop_all (length name + 1) name past
cut_kind name (b ∷ bs) n = ap (λ c. drop (c + 1) (name ++ (46 ∷ b ∷ bs))) (count_at is_dot allowed_no_dot name 46 (b ∷ bs) n refl) ∙ rest_at name 46 (b ∷ bs)

-- The facts about the fields of a name.
record Fields (name kind first second : List ℕ) : Type 0 where
  some : 0 < length name
  name_allowed : list_all is_allowed name ≡ true
  kind_allowed : list_all is_allowed kind ≡ true
  name_short : length name ≤ 8
  kind_short : length kind ≤ 3
  name_filled : first ≡ name ++ replicate (8 - length name) 32
  kind_filled : second ≡ kind ++ replicate (3 - length kind) 32

named_so : (drive : ℕ) (name kind first second : List ℕ) → Fields name kind first second → key_or_refusal drive name kind ≡ Ok (drive ∷ (first ++ second))
unfolding key_or_refusal
named_so drive name kind first second f =
    let raised_name = raised_again name f.name_allowed in
    let raised_kind = raised_again kind f.kind_allowed in
    let some : (length name == 0) ≡ false = (let s = f.some in search rules) in
    let short : (nat_lt 8 (length name) || nat_lt 3 (length kind)) ≡ false = (let s = f.name_short in let t = f.kind_short in search rules) in
    let valid : (is_valid name && is_valid kind) ≡ true = ap (λ x. list_all is_allowed x && is_valid kind) raised_name ∙ ap (λ x. list_all is_allowed name && list_all is_allowed x) raised_kind ∙ ap (λ b. b && list_all is_allowed kind) f.name_allowed ∙ f.kind_allowed in
    ap (λ b. cond b (Err 1) (cond (nat_lt 8 (length name) || nat_lt 3 (length kind)) (Err 2) (cond (is_valid name && is_valid kind) (Ok (key_of drive name kind)) (Err 3)))) some
    ∙ ap (λ b. cond b (Err 2) (cond (is_valid name && is_valid kind) (Ok (key_of drive name kind)) (Err 3))) short
    ∙ ap (λ b. cond b (Ok (key_of drive name kind)) (Err 3)) valid
    ∙ ap (λ x. Ok (drive ∷ (padded 8 x ++ padded 3 (map to_ascii_uppercase kind)))) raised_name
    ∙ ap (λ x. Ok (drive ∷ (padded 8 name ++ padded 3 x))) raised_kind
    ∙ ap (λ x. Ok (drive ∷ (x ++ padded 3 kind))) (sym f.name_filled)
    ∙ ap (λ x. Ok (drive ∷ (first ++ x))) (sym f.kind_filled)

plain_so : (drive : ℕ) (name kind first second : List ℕ) → Fields name kind first second → name_without_drive drive (name ++ type_text kind) ≡ Ok (drive ∷ (first ++ second))
plain_so drive name kind first second f =
    ap (λ n. key_or_refusal drive n (after_first is_dot (name ++ type_text kind))) (cut_name name kind f.name_allowed) ∙ ap (key_or_refusal drive name) (cut_kind name kind f.name_allowed) ∙ named_so drive name kind first second f

no_colon_first : (kind : List ℕ) → is_colon (slice_index (type_text kind) 0) ≡ false
no_colon_first [] = refl
no_colon_first (b ∷ bs) = refl

and_no : (b c : Bool) → c ≡ false → (b && c) ≡ false
and_no true c h = h
and_no false c h = refl

no_drive : (name kind : List ℕ) → 0 < length name → list_all is_allowed name ≡ true → has_drive (name ++ type_text kind) ≡ false
no_drive [] kind some h = absurd (omega arith)
no_drive (b ∷ []) kind some h = and_no (nat_lt 1 (length (b ∷ type_text kind))) (is_colon (slice_index (type_text kind) 0)) (no_colon_first kind)
no_drive (b ∷ c ∷ bs) kind some h =
    let rest = (both (is_allowed b) (list_all is_allowed (c ∷ bs)) h).1 in
    and_no (nat_lt 1 (length (b ∷ c ∷ (bs ++ type_text kind)))) (is_colon c) (allowed_no_colon c (both (is_allowed c) (list_all is_allowed bs) rest).0)

with_letter : (letter : ℕ) (text : List ℕ) → name_of (letter ∷ 58 ∷ text) ≡ name_on_drive (drive_of letter) text
unfolding name_of
with_letter letter text =
    let long : nat_lt 1 (suc (suc (length text))) ≡ true = search rules in
    ap (λ b. cond (b && true) (name_on_drive (drive_of letter) text) (name_without_drive 0 (letter ∷ 58 ∷ text))) long

said_so : (drive : ℕ) (name kind first second : List ℕ) → drive < 4 → Fields name kind first second → name_of (drive_text drive ++ (name ++ type_text kind)) ≡ Ok (drive ∷ (first ++ second))
unfolding name_of
said_so zero name kind first second d f = ap (λ b. cond b (name_on_drive (drive_of (slice_index (name ++ type_text kind) 0)) (drop 2 (name ++ type_text kind))) (name_without_drive 0 (name ++ type_text kind))) (no_drive name kind f.some f.name_allowed) ∙ plain_so 0 name kind first second f
said_so (suc zero) name kind first second d f = with_letter 66 (name ++ type_text kind) ∙ plain_so 1 name kind first second f
said_so (suc (suc zero)) name kind first second d f = with_letter 67 (name ++ type_text kind) ∙ plain_so 2 name kind first second f
said_so (suc (suc (suc zero))) name kind first second d f = with_letter 68 (name ++ type_text kind) ∙ plain_so 3 name kind first second f
said_so (suc (suc (suc (suc n)))) name kind first second d f = absurd (omega arith)

some_before : (b : ℕ) (bs : List ℕ) → is_allowed b ≡ true → 0 < length (before_first is_blank (b ∷ bs))
some_before b bs h =
    let here : before_first is_blank (b ∷ bs) ≡ b ∷ before_first is_blank bs = ap (λ t. take (cond (not t) (1 + position_or_len is_blank bs) 0) (b ∷ bs)) (allowed_no_blank b h) ∙ take_turn (position_or_len is_blank bs) b bs in
    let count = ap length here in
    omega arith

-- A valid key is the key of its printed text.
said_key : (drive b : ℕ) (bs : List ℕ) → length bs ≡ 10 → is_sayable (drive ∷ b ∷ bs) ≡ true → name_of (display_text (drive ∷ b ∷ bs)) ≡ Ok (drive ∷ b ∷ bs)
unfolding display_text
said_key drive b bs count h =
    let parts = sayable_parts (drive ∷ b ∷ bs) h in
    let first = take 8 (b ∷ bs) in
    let second = take 3 (drop 8 (b ∷ bs)) in
    let name = field_text first parts.name in
    let kind = field_text second parts.kind in
    let size : length first ≡ 8 = length-take-le 8 (b ∷ bs) (omega arith) in
    let rest : length (drop 8 (b ∷ bs)) ≡ 3 = length-drop 8 (b ∷ bs) ∙ (omega arith) in
    let all : second ≡ drop 8 (b ∷ bs) = take_all 3 (drop 8 (b ∷ bs)) (omega arith) in
    let three : length second ≡ 3 = ap length all ∙ rest in
    let fields : Fields (before_first is_blank first) (before_first is_blank second) first second = record {
      some = some_before b (take 7 bs) parts.first;
      name_allowed = name.allowed;
      kind_allowed = kind.allowed;
      name_short = (let s = name.short in omega arith);
      kind_short = (let s = kind.short in omega arith);
      name_filled = name.filled ∙ ap (λ n. before_first is_blank first ++ replicate (n - length (before_first is_blank first)) 32) size;
      kind_filled = kind.filled ∙ ap (λ n. before_first is_blank second ++ replicate (n - length (before_first is_blank second)) 32) three;
    } in
    ap name_of (append_assoc (drive_text drive) (before_first is_blank first) (type_text (before_first is_blank second)))
    ∙ said_so drive (before_first is_blank first) (before_first is_blank second) first second (drive_below drive parts.drive) fields
    ∙ ap (λ x. Ok (drive ∷ (first ++ x))) all ∙ ap (λ x. Ok (drive ∷ x)) (take-append-drop 8 (b ∷ bs))

pub said_as_printed : (key : Key) → length key ≡ 12 → is_sayable key ≡ true → name_of (display_text key) ≡ Ok key
said_as_printed [] count h = absurd (omega arith)
said_as_printed (d ∷ []) count h = absurd (omega arith)
said_as_printed (d ∷ b ∷ bs) count h = said_key d b bs (omega arith) h
