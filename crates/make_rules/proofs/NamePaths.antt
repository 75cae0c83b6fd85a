-- Paths in a folder whose path a rule can have.
use Rattle.std.proofs.Common.{◌≡◌, ℕ, ◌<◌, ◌==◌, ◌&&◌, ◌||◌, not, nat_lt, Bool, true, false, cond, [], ◌∷◌, ◌++◌, map, length, Option, Some, None, Result, Ok, Err, refl, ap, sym, subst, ◌∙◌, take, drop, suc, ◌+◌, append-nil, arith}
use Rattle.std.proofs.lemmas.Bool.{agree_below_at, and_from, and_parts, and_right, eqb-true, false≢true, not-true, true≢false}
use Rattle.std.proofs.lemmas.Bool.Decides.{nat_tests}
use Rattle.std.proofs.lemmas.List.Folds.{list_all-append, list_any-append}
use Rattle.std.specs.List.{after_first, before_first, list_all, list_any}
use Rattle.std.specs.Option.{option_map_or}
use Rattle.std.specs.Char.{to_ascii_lowercase, to_ascii_uppercase}
use Rattle.filenames.specs.Names.{Key, display_text, is_allowed, is_blank, is_colon, is_dot, is_field, is_sayable, is_valid, key_or_refusal, type_text}
use Rattle.filenames.proofs.NameLemmas.{sayable_parts}
use Rattle.folders.specs.FileSystem.{Path}
use Rattle.folders.specs.FolderNames.{folder_name, key_in, needs_slash, ok_or_none, path_text}
use Rattle.make_rules.specs.Carried.{as_read, ends_with_meaning, has_home, has_meaning, has_meaning_last, has_slash, is_capital, is_carried, is_own_target, rest_read}
use Rattle.make_rules.specs.Files.{folder_path}
use Rattle.make_rules.proofs.ReadingLemmas.{last_of}

-- A byte of a file's name in a folder.
abbrev is_name_byte : ℕ → Bool
is_name_byte b = is_allowed (to_ascii_uppercase b) || b == 46

-- A name of such bytes that does not begin with a `.`.
abbrev pub IsPlainName : Path → Type 0
IsPlainName [] = ⊥
IsPlainName (b ∷ bs) = (is_allowed (to_ascii_uppercase b) ≡ true) × (list_all is_name_byte bs ≡ true)

-- ---- bytes

name_byte_below : (b : ℕ) → is_name_byte b ≡ true → b < 128
name_byte_below b h = grind (arith, nat_tests)

-- What a name has only with a test that is false for each byte of a name.
never : (test : ℕ → Bool) (b : ℕ) → ((b : ℕ) → b < 128 → (is_name_byte b && test b) ≡ false) → is_name_byte b ≡ true → test b ≡ false
never test b none h = ap (λ t. t && test b) (sym h) ∙ none b (name_byte_below b h)

no_meaning : (b : ℕ) → is_name_byte b ≡ true → has_meaning b ≡ false
no_meaning b h = never has_meaning b (λ b. agree_below_at (λ b. is_name_byte b && has_meaning b) (λ b. false) 128 b refl) h

no_meaning_last : (b : ℕ) → is_name_byte b ≡ true → has_meaning_last b ≡ false
no_meaning_last b h = never has_meaning_last b (λ b. agree_below_at (λ b. is_name_byte b && has_meaning_last b) (λ b. false) 128 b refl) h

-- The first byte is no `~`, `.` or `/`.
record IsFirst (b : ℕ) : Type 0 where
  no_home : (b == 126) ≡ false
  no_dot : (b == 46) ≡ false
  no_slash : (b == 47) ≡ false

by_case : (b c : ℕ) (r : Bool) → (b == c) ≡ r → is_allowed (to_ascii_uppercase b) ≡ true → is_allowed (to_ascii_uppercase c) ≡ false → (b == c) ≡ false
by_case b c true e h none = absurd (false≢true (sym none ∙ ap (λ x. is_allowed (to_ascii_uppercase x)) (sym (eqb-true b c e)) ∙ h))
by_case b c false e h none = e

first_byte : (b : ℕ) → is_allowed (to_ascii_uppercase b) ≡ true → IsFirst b
first_byte b h = record { no_home = by_case b 126 (b == 126) refl h refl; no_dot = by_case b 46 (b == 46) refl h refl; no_slash = by_case b 47 (b == 47) refl h refl }

or_false : (x y : Bool) → x ≡ false → y ≡ false → (x || y) ≡ false
or_false false y p q = q
or_false true y p q = absurd (false≢true (sym p))

or_true : (x y : Bool) → x ≡ true → (x || y) ≡ true
or_true true y p = refl
or_true false y p = absurd (false≢true p)

-- ---- a path that ends with such a name

abbrev EndsInSlash : Path → Type 0
EndsInSlash [] = ⊥
EndsInSlash (b ∷ []) = b ≡ 47
EndsInSlash (b ∷ c ∷ cs) = EndsInSlash (c ∷ cs)

no_capitals : (h n : Path) → EndsInSlash h → list_all is_capital (h ++ n) ≡ false
no_capitals [] n e = absurd e
no_capitals (b ∷ []) n e = subst (λ x. (is_capital x && list_all is_capital n) ≡ false) (sym e) refl
no_capitals (b ∷ c ∷ cs) n e = and_right (is_capital b) (list_all is_capital ((c ∷ cs) ++ n)) (no_capitals (c ∷ cs) n e)

-- What make reads is in no home folder, and no target of make's own.
abbrev IsOrdinary : Path → Type 0
IsOrdinary path = (has_home path ≡ false) × (is_own_target path ≡ false)

no_own_target : (b : ℕ) (bs : Path) → (b == 46) ≡ false → is_own_target (b ∷ bs) ≡ false
no_own_target b [] h = refl
no_own_target b (c ∷ bs) h = ap (λ t. t && list_all is_capital (c ∷ bs)) h

module _ (m : ℕ) (ms : Path) (plain : IsPlainName (m ∷ ms)) where
  ordinary_name : (after : Bool) → IsOrdinary (rest_read after (m ∷ ms))
  ordinary_name after =
      let first = first_byte m plain.0 in
      let stays : ((after && m == 47) || (m == 46 && has_slash ms)) ≡ false =
      or_false (after && m == 47) (m == 46 && has_slash ms) (and_right after (m == 47) first.no_slash) (ap (λ t. t && has_slash ms) first.no_dot) in
      subst IsOrdinary (ap (λ t. cond t (rest_read true ms) (m ∷ ms)) (sym stays)) (first.no_home, no_own_target m ms first.no_dot)

  after_slash : (after : Bool) → IsOrdinary (rest_read after (47 ∷ m ∷ ms))
  after_slash true = ordinary_name true
  after_slash false = (refl, refl)

  -- At the last two bytes of a folder.
  two : (b : ℕ) (x y : Bool) (rest : Path) → has_home (cond (x || (y && false)) rest (b ∷ 47 ∷ [])) ≡ false
      → IsOrdinary (cond (x || (y && true)) (rest_read true (47 ∷ m ∷ ms)) (b ∷ 47 ∷ m ∷ ms))
  two b true y rest home = after_slash true
  two b false true rest home = after_slash true
  two b false false rest home = (home, and_right (b == 46) (list_all is_capital (47 ∷ m ∷ ms)) refl)

  ordinary : (after : Bool) (h : Path) → EndsInSlash h → has_home (rest_read after h) ≡ false → IsOrdinary (rest_read after (h ++ m ∷ ms))
  ordinary after [] e home = absurd e
  ordinary after (b ∷ []) e home = subst (λ x. IsOrdinary (rest_read after (x ∷ m ∷ ms))) (sym e) (after_slash after)
  ordinary after (b ∷ c ∷ []) e home =
      let P : ℕ → Type 0 = λ x. has_home (rest_read after (b ∷ x ∷ [])) ≡ false → IsOrdinary (rest_read after (b ∷ x ∷ m ∷ ms)) in
      subst P (sym e) (two b (after && b == 47) (b == 46) (rest_read true (47 ∷ []))) home
  ordinary after (b ∷ c ∷ d ∷ ds) e home =
      let h = c ∷ d ∷ ds in
      elim ((after && b == 47) || (b == 46 && c == 47)) as (λ t. has_home (cond t (rest_read true h) (b ∷ h)) ≡ false → IsOrdinary (cond t (rest_read true (h ++ m ∷ ms)) (b ∷ h ++ m ∷ ms))) [
        | true ↦ λ first. ordinary true (c ∷ d ∷ ds) e first
        | false ↦ λ first. (first, and_right (b == 46) (list_all is_capital (h ++ m ∷ ms)) (no_capitals h (m ∷ ms) e))
      ] home

plain_bytes : (n : Path) → list_all is_name_byte n ≡ true → list_any has_meaning n ≡ false
plain_bytes [] h = refl
plain_bytes (b ∷ bs) h =
    let both = and_parts (is_name_byte b) (list_all is_name_byte bs) h in
    or_false (has_meaning b) (list_any has_meaning bs) (no_meaning b both.0) (plain_bytes bs both.1)

plain_end : (b : ℕ) (bs : Path) → list_all is_name_byte (b ∷ bs) ≡ true → ends_with_meaning (b ∷ bs) ≡ false
plain_end b [] h = no_meaning_last b (and_parts (is_name_byte b) true h).0
plain_end b (c ∷ cs) h =
    ap (λ o. option_map_or has_meaning_last o false) (last_of b c cs) ∙ plain_end c cs (and_parts (is_name_byte b) (list_all is_name_byte (c ∷ cs)) h).1

end_of : (h : Path) (m : ℕ) (ms : Path) → ends_with_meaning (h ++ m ∷ ms) ≡ ends_with_meaning (m ∷ ms)
end_of [] m ms = refl
end_of (b ∷ []) m ms = ap (λ o. option_map_or has_meaning_last o false) (last_of b m ms)
end_of (b ∷ c ∷ cs) m ms = ap (λ o. option_map_or has_meaning_last o false) (last_of b c (cs ++ m ∷ ms)) ∙ end_of (c ∷ cs) m ms

-- What is used of a folder's path that a rule can have.
record IsAllowedFolder (h : Path) : Type 0 where
  no_meaning_in : list_any has_meaning h ≡ false
  no_home : has_home (as_read h) ≡ false

allowed_folder : (h : Path) → is_carried h ≡ true → IsAllowedFolder h
unfolding is_carried
allowed_folder h c =
    let one = and_parts (nat_lt 0 (length h)) _ c in
    let two = and_parts (not (list_any has_meaning h)) _ one.1 in
    let three = and_parts (not (ends_with_meaning h)) _ two.1 in
    let four = and_parts (not (has_home (as_read h))) _ three.1 in
    record { no_meaning_in = not-true _ two.0; no_home = not-true _ four.0 }

all_five : (some meaning end home own : Bool) → some ≡ true → meaning ≡ false → end ≡ false → home ≡ false → own ≡ false
    → (some && (not meaning && (not end && (not home && not own)))) ≡ true
all_five some meaning end home own p q r s t = rw (p, q, r, s, t) refl

longer : (h : Path) (m : ℕ) (ms : Path) → nat_lt 0 (length (h ++ m ∷ ms)) ≡ true
longer [] m ms = grind (arith, nat_tests)
longer (b ∷ bs) m ms = grind (arith, nat_tests)

carried_after : (h n : Path) → EndsInSlash h → IsPlainName n → IsAllowedFolder h → is_carried (h ++ n) ≡ true
unfolding is_carried
carried_after h [] e plain allowed = absurd plain
carried_after h (m ∷ ms) e plain allowed =
    let bytes : list_all is_name_byte (m ∷ ms) ≡ true = and_from (is_name_byte m) (list_all is_name_byte ms) (or_true _ _ plain.0) plain.1 in
    let ordinary = ordinary m ms plain false h e allowed.no_home in
    all_five _ _ _ _ _ (longer h m ms)
    (list_any-append has_meaning h (m ∷ ms) ∙ or_false _ _ allowed.no_meaning_in (plain_bytes (m ∷ ms) bytes))
    (end_of h m ms ∙ plain_end m ms bytes) ordinary.0 ordinary.1

-- ---- a folder with a `/` after it

abbrev slash_of : Path → Path
slash_of folder = cond (needs_slash folder) (47 ∷ []) []

slash_of_one : (b : ℕ) (r : Bool) → (b == 47) ≡ r → EndsInSlash (b ∷ cond (not r) (47 ∷ []) [])
slash_of_one b true e = eqb-true b 47 e
slash_of_one b false e = refl

ends_in_slash : (b : ℕ) (bs : Path) → EndsInSlash ((b ∷ bs) ++ slash_of (b ∷ bs))
ends_in_slash b [] = slash_of_one b (b == 47) refl
ends_in_slash b (c ∷ cs) =
    let same : needs_slash (b ∷ c ∷ cs) ≡ needs_slash (c ∷ cs) = ap (λ o. option_map_or (λ last. not (last == 47)) o false) (last_of b c cs) in
    subst (λ t. EndsInSlash ((c ∷ cs) ++ cond t (47 ∷ []) [])) (sym same) (ends_in_slash c cs)

nothing_carried : is_carried [] ≡ true → ⊥
unfolding is_carried
nothing_carried h = false≢true h

-- A rule can have the path of such a name in a folder, if it can have the folder.
pub carried_in : (folder name : Path) → is_carried (folder_path folder) ≡ true → IsPlainName name → is_carried (path_text folder name) ≡ true
carried_in [] name h plain = absurd (nothing_carried h)
carried_in (b ∷ bs) name h plain =
    let whole = (b ∷ bs) ++ slash_of (b ∷ bs) in
    carried_after whole name (ends_in_slash b bs) plain (allowed_folder whole (sym (ap is_carried (append-nil whole)) ∙ h))

-- ---- names in a folder

valid_bytes : (text : Path) → is_valid text ≡ true → list_all is_name_byte text ≡ true
valid_bytes [] h = refl
valid_bytes (b ∷ bs) h =
    let both = and_parts (is_allowed (to_ascii_uppercase b)) (is_valid bs) h in
    and_from (is_name_byte b) (list_all is_name_byte bs) (or_true _ _ both.0) (valid_bytes bs both.1)

cut : (r : Bool) (n b : ℕ) (bs : Path) → take (cond (not r) (1 + n) 0) (b ∷ bs) ≡ cond r [] (b ∷ take n bs)
cut true n b bs = refl
cut false n b bs = ap (λ k. take k (b ∷ bs)) (let e : 1 + n ≡ suc n = omega arith in e)

rest_of : (r : Bool) (n b : ℕ) (bs : Path) → drop (cond (not r) (1 + n) 0 + 1) (b ∷ bs) ≡ cond r bs (drop (n + 1) bs)
rest_of true n b bs = refl
rest_of false n b bs = ap (λ k. drop k (b ∷ bs)) (let e : 1 + n + 1 ≡ suc (n + 1) = omega arith in e)

before_more : (test : ℕ → Bool) (b : ℕ) (bs : Path) → before_first test (b ∷ bs) ≡ cond (test b) [] (b ∷ before_first test bs)
before_more test b bs = cut (test b) _ b bs

after_more : (test : ℕ → Bool) (b : ℕ) (bs : Path) → after_first test (b ∷ bs) ≡ cond (test b) bs (after_first test bs)
after_more test b bs = rest_of (test b) _ b bs

either_step : (r : Bool) (b : ℕ) (bs before after : Path) → is_dot b ≡ r → (is_valid before ≡ true → is_valid after ≡ true → list_all is_name_byte bs ≡ true)
    → is_valid (cond r [] (b ∷ before)) ≡ true → is_valid (cond r bs after) ≡ true → list_all is_name_byte (b ∷ bs) ≡ true
either_step true b bs before after e rest p q =
    and_from (is_name_byte b) (list_all is_name_byte bs) (subst (λ x. is_name_byte x ≡ true) (sym (eqb-true b 46 e)) refl) (valid_bytes bs q)
either_step false b bs before after e rest p q =
    let both = and_parts (is_allowed (to_ascii_uppercase b)) (is_valid before) p in
    and_from (is_name_byte b) (list_all is_name_byte bs) (or_true _ _ both.0) (rest both.1 q)

bytes_of_parts : (file : Path) → is_valid (before_first is_dot file) ≡ true → is_valid (after_first is_dot file) ≡ true → list_all is_name_byte file ≡ true
bytes_of_parts [] p q = refl
bytes_of_parts (b ∷ bs) p q =
    either_step (is_dot b) b bs (before_first is_dot bs) (after_first is_dot bs) refl (bytes_of_parts bs)
    (subst (λ t. is_valid t ≡ true) (before_more is_dot b bs) p) (subst (λ t. is_valid t ≡ true) (after_more is_dot b bs) q)

first_step : (r : Bool) (b : ℕ) (before : Path) → (length (cond r [] (b ∷ before)) == 0) ≡ false → is_valid (cond r [] (b ∷ before)) ≡ true
    → is_allowed (to_ascii_uppercase b) ≡ true
first_step true b before some p = absurd (true≢false some)
first_step false b before some p = (and_parts (is_allowed (to_ascii_uppercase b)) (is_valid before) p).0

record Parts (name kind : Path) : Type 0 where
  some : (length name == 0) ≡ false
  name_valid : is_valid name ≡ true
  kind_valid : is_valid kind ≡ true

tested : {K : Type 0} (empty long valid : Bool) (made key : Key) → (empty ≡ false → valid ≡ true → K)
    → cond {A = Result Key ℕ} empty (Err 1) (cond {A = Result Key ℕ} long (Err 2) (cond {A = Result Key ℕ} valid (Ok made) (Err 3))) ≡ Ok key → K
tested true long valid made key k h = cc
tested false true valid made key k h = cc
tested false false false made key k h = cc
tested false false true made key k h = k refl refl

parts : (drive : ℕ) (name kind : Path) (key : Key) → key_or_refusal drive name kind ≡ Ok key → Parts name kind
unfolding key_or_refusal
parts drive name kind key h = tested (length name == 0) _ (is_valid name && is_valid kind) _ key (λ e v.
    let both = and_parts (is_valid name) (is_valid kind) v in record { some = e; name_valid = both.0; kind_valid = both.1 }) h

ok_of : (r : Result Key ℕ) (key : Key) → ok_or_none r ≡ Some key → r ≡ Ok key
ok_of (Ok k) key h = let same : k ≡ key = cc in ap (λ x. Ok x) same
ok_of (Err n) key h = cc

without_colon : (r : Bool) (o : Option Key) (key : Key) → cond {A = Option Key} r None o ≡ Some key → o ≡ Some key
without_colon true o key h = cc
without_colon false o key h = h

-- The name of a host file in its folder.
pub name_with_key : (drive : ℕ) (file : Path) (key : Key) → key_in drive file ≡ Some key → IsPlainName file
name_with_key drive file key h = plain file (parts drive _ _ key (ok_of _ key (without_colon (list_any is_colon file) _ key h))) where
  plain : (file : Path) → Parts (before_first is_dot file) (after_first is_dot file) → IsPlainName file
  plain [] p = absurd (true≢false p.some)
  plain (b ∷ bs) p = (
    first_step (is_dot b) b (before_first is_dot bs) (subst (λ t. (length t == 0) ≡ false) (before_more is_dot b bs) p.some)
        (subst (λ t. is_valid t ≡ true) (before_more is_dot b bs) p.name_valid),
    (and_parts (is_name_byte b) (list_all is_name_byte bs) (bytes_of_parts (b ∷ bs) p.name_valid p.kind_valid)).1,
  )

-- ---- printed names

allowed_above : (b : ℕ) → is_allowed b ≡ true → is_allowed (to_ascii_uppercase b) ≡ true
allowed_above b h = grind (arith, nat_tests)

field_step : (r t : Bool) (b : ℕ) (bs before : Path) → is_allowed b ≡ r → is_blank b ≡ t → (is_field bs ≡ true → list_all is_name_byte before ≡ true)
    → cond r (is_field bs) (list_all is_blank (b ∷ bs)) ≡ true → list_all is_name_byte (cond t [] (b ∷ before)) ≡ true
field_step r true b bs before e f rest h = refl
field_step true false b bs before e f rest h = and_from (is_name_byte b) (list_all is_name_byte before) (or_true _ _ (allowed_above b e)) (rest h)
field_step false false b bs before e f rest h = absurd (false≢true (sym f ∙ (and_parts (is_blank b) (list_all is_blank bs) h).0))

field_bytes : (bs : Path) → is_field bs ≡ true → list_all is_name_byte (before_first is_blank bs) ≡ true
field_bytes [] h = refl
field_bytes (b ∷ bs) h =
    subst (λ t. list_all is_name_byte t ≡ true) (sym (before_more is_blank b bs))
    (field_step (is_allowed b) (is_blank b) b bs (before_first is_blank bs) refl refl (field_bytes bs) h)

typed_bytes : (kind : Path) → list_all is_name_byte kind ≡ true → list_all is_name_byte (type_text kind) ≡ true
typed_bytes [] h = refl
typed_bytes (b ∷ bs) h = h

blank_not_allowed : (b : ℕ) (r : Bool) → (b == 32) ≡ r → is_allowed b ≡ true → (b == 32) ≡ false
blank_not_allowed b true e h = absurd (false≢true (ap is_allowed (sym (eqb-true b 32 e)) ∙ h))
blank_not_allowed b false e h = e

printed : (b : ℕ) (name kind : Path) → is_allowed b ≡ true → is_field name ≡ true → is_field kind ≡ true
    → IsPlainName (before_first is_blank (b ∷ name) ++ type_text (before_first is_blank kind))
printed b name kind first n k =
    let begins : before_first is_blank (b ∷ name) ≡ b ∷ before_first is_blank name =
    before_more is_blank b name ∙ ap (λ t. cond t [] (b ∷ before_first is_blank name)) (blank_not_allowed b (b == 32) refl first) in
    subst (λ t. IsPlainName (t ++ type_text (before_first is_blank kind))) (sym begins) (
      allowed_above b first,
      list_all-append is_name_byte (before_first is_blank name) (type_text (before_first is_blank kind))
          ∙ and_from (list_all is_name_byte (before_first is_blank name)) (list_all is_name_byte (type_text (before_first is_blank kind)))
          (field_bytes name n) (typed_bytes (before_first is_blank kind) (field_bytes kind k)),
    )

-- The name that a file would have in its folder.
pub name_printed : (key : Key) → is_sayable key ≡ true → IsPlainName (folder_name key)
unfolding display_text
name_printed [] h = absurd (false≢true (sayable_parts [] h).first)
name_printed (d ∷ []) h = absurd (false≢true (sayable_parts (d ∷ []) h).first)
name_printed (d ∷ b ∷ bs) h =
    let s = sayable_parts (d ∷ b ∷ bs) h in
    printed b (take 7 bs) (take 3 (drop 7 bs)) s.first (ap (λ t. cond t (is_field (take 7 bs)) (list_all is_blank (b ∷ take 7 bs))) (sym s.first) ∙ s.name) s.kind

allowed_below : (b : ℕ) → is_allowed (to_ascii_uppercase b) ≡ true → is_allowed (to_ascii_uppercase (to_ascii_lowercase b)) ≡ true
allowed_below b h = grind (arith, nat_tests)

byte_below : (b : ℕ) → is_name_byte b ≡ true → is_name_byte (to_ascii_lowercase b) ≡ true
byte_below b h = grind (arith, nat_tests)

bytes_below : (bs : Path) → list_all is_name_byte bs ≡ true → list_all is_name_byte (map to_ascii_lowercase bs) ≡ true
bytes_below [] h = refl
bytes_below (b ∷ bs) h =
    let both = and_parts (is_name_byte b) (list_all is_name_byte bs) h in
    and_from (is_name_byte (to_ascii_lowercase b)) (list_all is_name_byte (map to_ascii_lowercase bs)) (byte_below b both.0) (bytes_below bs both.1)

-- The same name in lower case.
pub name_lowered : (name : Path) → IsPlainName name → IsPlainName (map to_ascii_lowercase name)
name_lowered [] h = absurd h
name_lowered (b ∷ bs) h = (allowed_below b h.0, bytes_below bs h.1)
