-- How make reads a written line.
use Rattle.std.proofs.Common.{◌≡◌, ℕ, suc, refl, ◌-◌, ◌&&◌, not, nat_lt, Bool, true, false, List, [], ◌∷◌, ◌++◌, map, filter, length, eqb, slice_get, slice_index, get_or, codes, Option, Some, None, inl, inr, ap, sym, ◌∙◌, append_assoc, append-nil, arith}
use Rattle.std.proofs.lemmas.Bool.{cases_Bool, false≢true, true≢false}
use Rattle.std.proofs.lemmas.Bool.Decides.{eqb_tells}
use Rattle.std.proofs.lemmas.List.Folds.{list_all-append}
use Rattle.std.specs.List.{flat_map, list_all, list_any}
use Rattle.std.specs.Option.{option_map_or}
use Rattle.filenames.specs.Names.{Key}
use Rattle.folders.specs.FileSystem.{Path}
use Rattle.folders.specs.FolderNames.{folder_name, path_text}
use Rattle.std.specs.Char.{to_ascii_lowercase}
use Rattle.make_rules.specs.Carried.{as_read, ends_with_meaning, fits_call, has_home, has_meaning, has_meaning_in_call, has_meaning_last, is_carried, is_own_target}
use Rattle.make_rules.specs.Escapes.{backslashes, escaped, prerequisite}
use Rattle.make_rules.specs.Files.{each_absent, is_target, path_in_call, paths_in_call}
use Rattle.folders.specs.declared.drive_folder.DriveFolder.{DriveFolder}
use Rattle.make_rules.specs.Reading.{ReadsRule, Sign, Named, Mark, Backslashes, after, after_blanks, before, between_blanks, names, signs, signs_of, value_of, with_name}
use Rattle.make_rules.specs.Rule.{IsReadByMake, Needs, call, rule_line, targets_text}
use Rattle.make_rules.proofs.SignLemmas.{AllInCall, AllPlain, arguments_signs, ends_plainly, path_signs, prerequisite_signs}

and_true : (x y : Bool) → (x && y) ≡ true → (x ≡ true) × (y ≡ true)
and_true true y h = (refl, h)
and_true false y h = absurd (false≢true h)

not_true : (x : Bool) → not x ≡ true → x ≡ false
not_true false h = refl
not_true true h = absurd (false≢true h)

-- ---- a path that a rule can have

pub last_of : (b c : ℕ) (cs : Path) → slice_get (b ∷ c ∷ cs) (length (b ∷ c ∷ cs) - 1) ≡ slice_get (c ∷ cs) (length (c ∷ cs) - 1)
last_of b c cs =
    let first : length (b ∷ c ∷ cs) - 1 ≡ suc (length cs) = omega arith in
    let second : length cs ≡ length (c ∷ cs) - 1 = omega arith in
    ap (slice_get (b ∷ c ∷ cs)) first ∙ ap (slice_get (c ∷ cs)) second

ends_where : (n b : ℕ) (bs : Path) → ends_with_meaning (b ∷ bs) ≡ false → ends_plainly n (b ∷ bs) ≡ true
ends_where n b [] h = elim (eqb_tells b 92) [
  | inl e ↦ absurd (true≢false (sym (ap has_meaning_last e.1) ∙ h))
  | inr e ↦ rw e.0 refl
]
ends_where n b (c ∷ cs) h =
    ends_where (backslashes n b) c cs (sym (ap (λ o. option_map_or has_meaning_last o false) (last_of b c cs)) ∙ h)

-- What is used of a path that a rule can have.
record IsPlain (p : Path) : Type 0 where
  named : nat_lt 0 (length p) ≡ true
  plain : list_any has_meaning p ≡ false
  ends : ends_plainly 0 p ≡ true

plain_path : (p : Path) → is_carried p ≡ true → IsPlain p
unfolding is_carried
plain_path [] h = absurd (false≢true h)
plain_path (b ∷ bs) h =
    let p = b ∷ bs in
    let one = and_true (nat_lt 0 (length p)) (not (list_any has_meaning p) && (not (ends_with_meaning p) && (not (has_home (as_read p)) && not (is_own_target (as_read p))))) h in
    let two = and_true (not (list_any has_meaning p)) (not (ends_with_meaning p) && (not (has_home (as_read p)) && not (is_own_target (as_read p)))) one.1 in
    let three = and_true (not (ends_with_meaning p)) (not (has_home (as_read p)) && not (is_own_target (as_read p))) two.1 in
    record {
      named = one.0;
      plain = not_true (list_any has_meaning p) two.0;
      ends = ends_where 0 b bs (not_true (ends_with_meaning p) three.0);
    }

-- Each path of a list is not empty.
abbrev AllNamed : List Path → Type 0
AllNamed [] = Unit {0}
AllNamed (p ∷ ps) = (nat_lt 0 (length p) ≡ true) × AllNamed ps

all_plain : (exists : Path → Bool) (ps : List Path) → list_all is_carried ps ≡ true → AllPlain exists ps
all_plain exists [] h = tt
all_plain exists (p ∷ ps) h =
    let both = and_true (is_carried p) (list_all is_carried ps) h in
    let first = plain_path p both.0 in
    (first.plain, first.ends, all_plain exists ps both.1)

all_named : (ps : List Path) → list_all is_carried ps ≡ true → AllNamed ps
all_named [] h = tt
all_named (p ∷ ps) h =
    let both = and_true (is_carried p) (list_all is_carried ps) h in
    ((plain_path p both.0).named, all_named ps both.1)

all_in_call : (exists : Path → Bool) (ps : List Path) → list_all fits_call ps ≡ true → AllInCall exists ps
all_in_call exists [] h = tt
all_in_call exists (p ∷ ps) h =
    let both = and_true (fits_call p) (list_all fits_call ps) h in
    (not_true (list_any has_meaning_in_call p) both.0, all_in_call exists ps both.1)

named_filter : (exists : Path → Bool) (ps : List Path) → AllNamed ps → AllNamed (filter exists ps)
named_filter exists [] h = tt
named_filter exists (p ∷ ps) h = elim (cases_Bool (exists p)) [
  | inl e ↦ rw e (h.0, named_filter exists ps h.1)
  | inr e ↦ rw e (named_filter exists ps h.1)
]

-- ---- the names between marks

names_named : (name p : Path) (s : List Sign) → names name (map Named p ++ s) ≡ names (name ++ p) s
names_named name [] s = ap (λ n. names n s) (sym (append-nil name))
names_named name (b ∷ bs) s = names_named (name ++ b ∷ []) bs s ∙ ap (λ n. names n s) (append_assoc name (b ∷ []) bs)

with_named : (p : Path) (ps : List Path) → nat_lt 0 (length p) ≡ true → with_name p ps ≡ p ∷ ps
with_named [] ps h = absurd (false≢true h)
with_named (b ∷ bs) ps h = refl

names_then : (name : Path) (ps : List Path) (s : List Sign) (later : List Path) → AllNamed ps → ((n : Path) → names n s ≡ with_name n later)
    → names name (after_blanks ps ++ s) ≡ with_name name (ps ++ later)
names_then name [] s later h rest = rest name
names_then name (p ∷ ps) s later h rest =
    ap (with_name name) (ap (names []) (append_assoc (map Named p) (after_blanks ps) s) ∙ names_named [] p (after_blanks ps ++ s)
    ∙ names_then p ps s later h.1 rest ∙ with_named p (ps ++ later) h.0)

names_after : (name : Path) (ps : List Path) → AllNamed ps → names name (after_blanks ps) ≡ with_name name ps
names_after name ps h =
    ap (names name) (sym (append-nil (after_blanks ps))) ∙ names_then name ps [] [] h (λ n. refl) ∙ ap (with_name name) (append-nil ps)

-- What a call leaves of the paths that are not there.
abbrev tail : (Path → Bool) → List Path → List Sign
tail exists [] = []
tail exists (p ∷ ps) = Mark 32 ∷ between_blanks (filter exists (p ∷ ps))

names_between : (name : Path) (ps : List Path) → AllNamed ps → names name (Mark 32 ∷ between_blanks ps) ≡ with_name name ps
names_between name [] h = refl
names_between name (p ∷ ps) h = names_after name (p ∷ ps) h

names_tail : (exists : Path → Bool) (ps : List Path) → AllNamed ps → (name : Path) → names name (tail exists ps) ≡ with_name name (filter exists ps)
names_tail exists [] h name = refl
names_tail exists (p ∷ ps) h name = names_between name (filter exists (p ∷ ps)) (named_filter exists (p ∷ ps) h)

-- ---- the marks

before_named : (m : ℕ) (p : Path) (s : List Sign) → before m (map Named p ++ s) ≡ map Named p ++ before m s
before_named m [] s = refl
before_named m (b ∷ bs) s = ap (λ t. Named b ∷ t) (before_named m bs s)

after_named : (m : ℕ) (p : Path) (s : List Sign) → after m (map Named p ++ s) ≡ after m s
after_named m [] s = refl
after_named m (b ∷ bs) s = after_named m bs s

after_all : (ps : List Path) (s : List Sign) → after 58 (after_blanks ps ++ s) ≡ after 58 s
after_all [] s = refl
after_all (p ∷ ps) s = ap (after 58) (append_assoc (map Named p) (after_blanks ps) s) ∙ after_named 58 p (after_blanks ps ++ s) ∙ after_all ps s

after_between : (ps : List Path) (s : List Sign) → after 58 (between_blanks ps ++ s) ≡ after 58 s
after_between [] s = refl
after_between (p ∷ ps) s = ap (after 58) (append_assoc (map Named p) (after_blanks ps) s) ∙ after_named 58 p (after_blanks ps ++ s) ∙ after_all ps s

module _ (m : ℕ) (other : eqb 32 m ≡ false) where
  before_blanks : (ps : List Path) (s : List Sign) → before m (after_blanks ps ++ s) ≡ after_blanks ps ++ before m s
  before_blanks [] s = refl
  before_blanks (p ∷ ps) s =
      rw other (ap (λ t. Mark 32 ∷ t) (ap (before m) (append_assoc (map Named p) (after_blanks ps) s) ∙ before_named m p (after_blanks ps ++ s)
      ∙ ap (λ t. map Named p ++ t) (before_blanks ps s) ∙ sym (append_assoc (map Named p) (after_blanks ps) (before m s))))

  before_between : (ps : List Path) (s : List Sign) → before m (between_blanks ps ++ s) ≡ between_blanks ps ++ before m s
  before_between [] s = refl
  before_between (p ∷ ps) s =
      ap (before m) (append_assoc (map Named p) (after_blanks ps) s) ∙ before_named m p (after_blanks ps ++ s)
      ∙ ap (λ t. map Named p ++ t) (before_blanks ps s) ∙ sym (append_assoc (map Named p) (after_blanks ps) (before m s))

before_tail : (exists : Path → Bool) (ps : List Path) → before 35 (tail exists ps) ≡ tail exists ps
before_tail exists [] = refl
before_tail exists (p ∷ ps) =
    let found = between_blanks (filter exists (p ∷ ps)) in
    ap (λ t. Mark 32 ∷ t) (ap (before 35) (sym (append-nil found)) ∙ before_between 35 refl (filter exists (p ∷ ps)) [] ∙ append-nil found)

-- ---- the line

call_signs : (exists : Path → Bool) (ps : List Path) → AllInCall exists ps → AllNamed ps → signs exists (Backslashes 0) (call ps) ≡ tail exists ps
call_signs exists [] h named = refl
call_signs exists (p ∷ ps) h named =
    ap (λ t. Mark 32 ∷ t) (arguments_signs exists (map Named (codes "wildcard")) (p ∷ ps) (codes ")") h
    ∙ append-nil (value_of exists (names [] (map Named (codes "wildcard") ++ after_blanks (p ∷ ps))))
    ∙ ap (value_of exists) (names_named [] (codes "wildcard") (after_blanks (p ∷ ps)) ∙ names_after (codes "wildcard") (p ∷ ps) named))

target_signs : (exists : Path → Bool) (targets : List Path) (rest : List ℕ) → list_all is_carried targets ≡ true
    → signs exists (Backslashes 0) (targets_text targets ++ rest) ≡ between_blanks targets ++ signs exists (Backslashes 0) rest
target_signs exists [] rest h = refl
target_signs exists (t ∷ ts) rest h =
    let both = and_true (is_carried t) (list_all is_carried ts) h in
    let plain = plain_path t both.0 in
    ap (signs exists (Backslashes 0)) (append_assoc (escaped t) (flat_map prerequisite ts) rest)
    ∙ path_signs exists 0 t (flat_map prerequisite ts ++ rest) plain.plain plain.ends
    ∙ ap (λ s. map Named t ++ s) (prerequisite_signs exists ts rest (all_plain exists ts both.1))
    ∙ sym (append_assoc (map Named t) (after_blanks ts) (signs exists (Backslashes 0) rest))

module _ (exists : Path → Bool) (targets needs missing : List Path) (of_targets : list_all is_carried targets ≡ true) (of_needs : list_all is_carried needs ≡ true)
    (of_missing : list_all is_carried missing ≡ true) (fit : list_all fits_call missing ≡ true) where
  line_signs : signs_of exists (rule_line targets needs missing) ≡ between_blanks targets ++ Mark 58 ∷ (after_blanks needs ++ tail exists missing)
  line_signs =
      let rest = flat_map prerequisite needs ++ call missing in
      let parts = append_assoc (targets_text targets ++ codes ":") (flat_map prerequisite needs) (call missing) ∙ append_assoc (targets_text targets) (codes ":") rest in
      let all = ap (signs exists (Backslashes 0)) parts ∙ target_signs exists targets (58 ∷ rest) of_targets
      ∙ ap (λ t. between_blanks targets ++ Mark 58 ∷ t) (prerequisite_signs exists needs (call missing) (all_plain exists needs of_needs)
      ∙ ap (λ t. after_blanks needs ++ t) (call_signs exists missing (all_in_call exists missing fit) (all_named missing of_missing))) in
      ap (before 35) all ∙ before_between 35 refl targets (Mark 58 ∷ (after_blanks needs ++ tail exists missing))
      ∙ ap (λ t. between_blanks targets ++ Mark 58 ∷ t) (before_blanks 35 refl needs (tail exists missing) ∙ ap (λ t. after_blanks needs ++ t) (before_tail exists missing))

  pub reads_line : ReadsRule exists (rule_line targets needs missing) targets (needs ++ filter exists missing)
  reads_line = record {
    targets_are = ap (λ s. names [] (before 58 s)) line_signs
        ∙ ap (names []) (before_between 58 refl targets (Mark 58 ∷ (after_blanks needs ++ tail exists missing)) ∙ append-nil (between_blanks targets))
        ∙ names_between [] targets (all_named targets of_targets);
    prerequisites_are = ap (λ s. names [] (after 58 s)) line_signs
        ∙ ap (names []) (after_between targets (Mark 58 ∷ (after_blanks needs ++ tail exists missing)))
        ∙ names_then [] needs (tail exists missing) (filter exists missing) (all_named needs of_needs) (names_tail exists missing (all_named missing of_missing));
  }

-- ---- the paths in a call

in_call_fits : (targets : List Path) (path : Path) → list_all fits_call (path_in_call targets path) ≡ true
in_call_fits targets path = elim (cases_Bool (fits_call path)) [
  | inl e ↦ elim (cases_Bool (is_target targets path)) [
    | inl f ↦ rw (e, f) refl
    | inr f ↦ rw (e, f) (rw e refl)
  ]
  | inr e ↦ rw e refl
]

both_fit : (xs ys : List Path) → list_all fits_call xs ≡ true → list_all fits_call ys ≡ true → list_all fits_call (xs ++ ys) ≡ true
both_fit xs ys e f = list_all-append fits_call xs ys ∙ rw (e, f) refl

paths_fit : (targets : List Path) (drive : Option DriveFolder) (key : Key) → list_all fits_call (paths_in_call targets drive key) ≡ true
paths_fit targets None key = refl
paths_fit targets (Some d) key =
    let upper = path_text d.folder.now (folder_name key) in
    let lower = path_text d.folder.now (map to_ascii_lowercase (folder_name key)) in
    both_fit (path_in_call targets upper) (path_in_call targets lower) (in_call_fits targets upper) (in_call_fits targets lower)

pub all_fit : (targets : List Path) (drives : List (Option DriveFolder)) (files : List Key) → list_all fits_call (each_absent (paths_in_call targets) drives files) ≡ true
all_fit targets drives [] = refl
all_fit targets drives (k ∷ ks) =
    both_fit (paths_in_call targets (get_or drives (slice_index k 0) None) k) (each_absent (paths_in_call targets) drives ks) (paths_fit targets (get_or drives (slice_index k 0) None) k) (all_fit targets drives ks)

-- ---- the rule

-- If a rule can have all paths, make reads the rule as its definition says.
pub of_all : (targets : List Path) (n : Needs) → list_all is_carried (targets ++ (n.program ++ n.others) ++ n.missing) ≡ true → list_all fits_call n.missing ≡ true → IsReadByMake targets n
of_all targets n carried fit =
    let needs = n.program ++ n.others in
    let one = and_true (list_all is_carried (targets ++ needs)) (list_all is_carried n.missing) (sym (list_all-append is_carried (targets ++ needs) n.missing) ∙ carried) in
    let two = and_true (list_all is_carried targets) (list_all is_carried needs) (sym (list_all-append is_carried targets needs) ∙ one.0) in
    record {
      carried = carried;
      first = λ exists. reads_line exists targets needs n.missing two.0 two.1 one.1 fit;
      others = λ exists path h. reads_line exists (path ∷ []) [] [] (ap (λ b. b && true) h) refl refl refl;
    }
