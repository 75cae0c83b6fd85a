-- Deleting the files that match a pattern, one after another.
use Rattle.std.proofs.Common.{◌≡◌, ◌≢◌, ◌+◌, ℕ, suc, Bool, true, false, cond, ◌&&◌, not, is_some, List, ◌∷◌, ◌++◌, length, Option, Some, None, refl, sym, ap, ◌∙◌, arith}
use Rattle.std.specs.declared.cmp.Ordering.TheVariants.{Less, Equal, Greater}
use Rattle.std.specs.Cmp.{eq_by_cmp_equiv}
use Rattle.std.specs.Option.{option_map}
use Rattle.std.specs.Ordering.{nat_cmp, eq_by_cmp, is_lt, is_eq, ordering_reverse}
use Rattle.std.specs.Cmp.Lexicographic.{slice_cmp, nat_list_cmp_total}
use Rattle.std.specs.List.{filter}
use Rattle.std.specs.FinMap.{get, get-insert, entries, entries_sorted, get-entries}
use Rattle.keymaps.specs.Order.{is_above, EachAbove, Skips}
use Rattle.keymaps.specs.Walks.{IsInNeither}
use Rattle.keymaps.proofs.Views.{same_key, key_of}
use Rattle.keymaps.proofs.Rising.{here, begins, ends}
use Rattle.keymaps.proofs.Left.{all_pass, rises}
use Rattle.filenames.specs.Names.{is_sayable}
use Rattle.directory.specs.Entries.{Shape, is_match}
use Rattle.hostfiles.specs.Hosts.{Key, Host}
use Rattle.hostfiles.specs.Files.{OwnFiles, has, is_listed, gone_entry, shapes, file_of, entry_at, after_delete}
use Rattle.hostfiles.specs.File.{shape_of}
use Rattle.hostfiles.specs.declared.journal.Entry.{Entry}
use Rattle.hostfiles.proofs.FileLemmas.{get-shapes, no_file, nothing_listed}

abbrev pub is_passed : Option Key → Key → Bool
is_passed after q = not (is_above after q)

-- All matching files with keys up to `after` are deleted, and nothing else is changed.
abbrev pub DeletedTo : Host → OwnFiles → Key → Option Key → OwnFiles → Type 0
DeletedTo host own pattern after left = (q : Key) → get left q ≡ cond (is_match pattern q && has host own q && is_passed after q) (Some gone_entry) (get own q)

abbrev pub matched : Key → List (Key × Shape) → ℕ
matched pattern es = length (filter (λ e. is_match pattern e.0) es)

-- They are counted, and the others are still to be counted.
abbrev pub CountedTo : Host → OwnFiles → Key → Option Key → ℕ → Type 0
CountedTo host own pattern after count =
    count + matched pattern (filter (λ e. is_above after e.0) (entries (shapes host own))) ≡ matched pattern (entries (shapes host own))

-- There is no file with a key that neither map has.
pub not_there : (host : Host) (own : OwnFiles) (q : Key) → IsInNeither host own q → has host own q ≡ false
not_there host own q h = absent (has host own q) (no_file host own q h.0 h.1) where
  absent : (b : Bool) → cond b (Some (file_of host q (entry_at own q))) None ≡ None → b ≡ false
  absent true h = cc
  absent false h = refl

pub unlisted : (host : Host) (own : OwnFiles) (q : Key) → IsInNeither host own q → is_listed host own q ≡ false
unlisted host own q h = ap (λ b. b && is_sayable q) (not_there host own q h)

before_start : (a b : Bool) (x : Option Entry) (r : Option Entry) → cond (a && b && false) x r ≡ r
before_start true true x r = refl
before_start true false x r = refl
before_start false b x r = refl

pub deleted_start : (host : Host) (own : OwnFiles) (pattern : Key) → DeletedTo host own pattern None own
deleted_start host own pattern q = sym (before_start (is_match pattern q) (has host own q) (Some gone_entry) (get own q))

pub counted_start : (host : Host) (own : OwnFiles) (pattern : Key) → CountedTo host own pattern None 0
counted_start host own pattern =
    let zero_on : 0 + matched pattern (filter (λ e. true) (entries (shapes host own))) ≡ matched pattern (filter (λ e. true) (entries (shapes host own))) = omega arith in
    zero_on ∙ ap (matched pattern) (all_pass (entries (shapes host own)))

-- ---- the next key

-- A key above k was above the bound before; a key below k that was above that bound has no file.
passed_on : (host : Host) (own : OwnFiles) (after : Option Key) (k q : Key) → Skips after (IsInNeither host own) (Some k) → slice_cmp nat_cmp k q ≢ Equal
    → (has host own q && is_passed (Some k) q) ≡ (has host own q && is_passed after q)
passed_on host own after k q least apart =
    elim (slice_cmp nat_cmp k q) as (λ r. slice_cmp nat_cmp k q ≡ r → (has host own q && not (is_lt r)) ≡ (has host own q && is_passed after q)) [
      | Less ↦ λ r. ap (λ b. has host own q && not b) (sym (rises after k q least.0 r))
      | Equal ↦ λ r. absurd (apart r)
      | Greater ↦ λ r. elim (is_above after q) as (λ b. is_above after q ≡ b → (has host own q && true) ≡ (has host own q && not b)) [
        | true ↦ λ b.
            let gone = not_there host own q (least.1 q b (nat_list_cmp_total.antisymm q k ∙ ap ordering_reverse r)) in
            ap (λ h. h && true) gone ∙ sym (ap (λ h. h && false) gone)
        | false ↦ λ b. refl
      ] refl
    ] refl

regrouped : (a b c : Bool) → (a && b && c) ≡ (a && (b && c))
regrouped true b c = refl
regrouped false b c = refl

all_passed_on : (host : Host) (own : OwnFiles) (pattern : Key) (after : Option Key) (k q : Key) → Skips after (IsInNeither host own) (Some k) → slice_cmp nat_cmp k q ≢ Equal
    → (is_match pattern q && has host own q && is_passed (Some k) q) ≡ (is_match pattern q && has host own q && is_passed after q)
all_passed_on host own pattern after k q least apart =
    regrouped (is_match pattern q) (has host own q) (is_passed (Some k) q) ∙ ap (λ b. is_match pattern q && b) (passed_on host own after k q least apart)
    ∙ sym (regrouped (is_match pattern q) (has host own q) (is_passed after q))

same_as_itself : (q : Key) → eq_by_cmp (slice_cmp nat_cmp) q q ≡ true
same_as_itself q = (eq_by_cmp_equiv nat_list_cmp_total).refl q

apart_of : (k q : Key) → eq_by_cmp (slice_cmp nat_cmp) q k ≡ false → slice_cmp nat_cmp k q ≢ Equal
apart_of k q h e =
    let same : k ≡ q = same_key k q e in
    let yes : eq_by_cmp (slice_cmp nat_cmp) q k ≡ true = ap (λ x. eq_by_cmp (slice_cmp nat_cmp) q x) same ∙ same_as_itself q in
    cc

-- If the key has no file that matches, nothing changes.
pub deleted_past : (host : Host) (own : OwnFiles) (pattern : Key) (after : Option Key) (k : Key) (left : OwnFiles) → Skips after (IsInNeither host own) (Some k) → (is_match pattern k && has host own k) ≡ false
    → DeletedTo host own pattern after left → DeletedTo host own pattern (Some k) left
deleted_past host own pattern after k left least unmatched h q =
    elim (eq_by_cmp (slice_cmp nat_cmp) q k) as (λ b. eq_by_cmp (slice_cmp nat_cmp) q k ≡ b → get left q ≡ cond (is_match pattern q && has host own q && is_passed (Some k) q) (Some gone_entry) (get own q)) [
      | true ↦ λ b.
          let same : k ≡ q = sym (key_of same_key q k b) in
          let none_here : (is_match pattern q && has host own q) ≡ false = ap (λ x. is_match pattern x && has host own x) (sym same) ∙ unmatched in
          h q ∙ ap (λ m. cond (m && is_passed after q) (Some gone_entry) (get own q)) none_here ∙ sym (ap (λ m. cond (m && is_passed (Some k) q) (Some gone_entry) (get own q)) none_here)
      | false ↦ λ b. h q ∙ ap (λ m. cond m (Some gone_entry) (get own q)) (sym (all_passed_on host own pattern after k q least (apart_of k q b)))
    ] refl

not_above_itself : (k : Key) → is_passed (Some k) k ≡ true
not_above_itself k =
    elim (slice_cmp nat_cmp k k) as (λ r. slice_cmp nat_cmp k k ≡ r → not (is_lt r) ≡ true) [
      | Less ↦ λ r. let e : is_eq (slice_cmp nat_cmp k k) ≡ true = same_as_itself k in let f = ap is_eq r in cc
      | Equal ↦ λ r. refl
      | Greater ↦ λ r. refl
    ] refl

-- If it has one, the file is deleted.
pub deleted_here : (host : Host) (own : OwnFiles) (pattern : Key) (after : Option Key) (k : Key) (left m : OwnFiles) → Skips after (IsInNeither host own) (Some k) → (is_match pattern k && has host own k) ≡ true
    → DeletedTo host own pattern after left → m ≡ after_delete left k → DeletedTo host own pattern (Some k) m
deleted_here host own pattern after k left m least matched h e q =
    ap (λ x. get x q) e ∙ get-insert nat_list_cmp_total left k gone_entry q
    ∙ elim (eq_by_cmp (slice_cmp nat_cmp) q k) as (λ b. eq_by_cmp (slice_cmp nat_cmp) q k ≡ b → cond b (Some gone_entry) (get left q) ≡ cond (is_match pattern q && has host own q && is_passed (Some k) q) (Some gone_entry) (get own q)) [
      | true ↦ λ b.
          let same : k ≡ q = sym (key_of same_key q k b) in
          let all : (is_match pattern q && has host own q && is_passed (Some k) q) ≡ true =
          ap (λ x. is_match pattern x && has host own x && is_passed (Some k) x) (sym same) ∙ ap (λ m. m && is_passed (Some k) k) matched ∙ not_above_itself k in
          sym (ap (λ m. cond m (Some gone_entry) (get own q)) all)
      | false ↦ λ b. h q ∙ ap (λ m. cond m (Some gone_entry) (get own q)) (sym (all_passed_on host own pattern after k q least (apart_of k q b)))
    ] refl

-- ---- counting

pub there : (host : Host) (own : OwnFiles) (k : Key) → is_some (get (shapes host own) k) ≡ has host own k
there host own k = ap is_some (get-shapes host own k) ∙ told (has host own k) where
  told : (b : Bool) → is_some (option_map shape_of (cond b (Some (file_of host k (entry_at own k))) None)) ≡ b
  told true = refl
  told false = refl

one_or_none : (b : Bool) (n : ℕ) → cond b (suc n) n ≡ cond b 1 0 + n
one_or_none true n = omega arith
one_or_none false n = omega arith

never : (b : Bool) (n : ℕ) → n ≡ cond (b && false) 1 0 + n
never true n = omega arith
never false n = omega arith

sized : (b : Bool) (x : Key × Shape) (xs : List (Key × Shape)) → length (cond b (x ∷ xs) xs) ≡ cond b (suc (length xs)) (length xs)
sized true x xs = refl
sized false x xs = refl

matched_here : (pattern k : Key) (v : Option Shape) (es : List (Key × Shape)) → matched pattern (here k v ++ es) ≡ cond (is_match pattern k && is_some v) 1 0 + matched pattern es
matched_here pattern k None es = never (is_match pattern k) (matched pattern es)
matched_here pattern k (Some s) es =
    sized (is_match pattern k) (k, s) (filter (λ e. is_match pattern e.0) es) ∙ one_or_none (is_match pattern k) (matched pattern es)
    ∙ ap (λ b. cond b 1 0 + matched pattern es) (yes (is_match pattern k)) where
      yes : (b : Bool) → b ≡ (b && true)
      yes true = refl
      yes false = refl

begin_here : (host : Host) (own : OwnFiles) (after : Option Key) (k : Key) → Skips after (IsInNeither host own) (Some k)
    → filter (λ e. is_above after e.0) (entries (shapes host own)) ≡ here k (get (shapes host own) k) ++ filter (λ e. is_above (Some k) e.0) (entries (shapes host own))
begin_here host own after k least =
    begins nat_list_cmp_total same_key (is_above after) (rises after) k least.0 (entries (shapes host own)) (entries_sorted (shapes host own))
    (λ x a l. sym (get-entries (shapes host own) x) ∙ nothing_listed host own x (least.1 x a l))
    ∙ ap (λ v. here k v ++ filter (λ e. is_above (Some k) e.0) (entries (shapes host own))) (sym (get-entries (shapes host own) k))

pub counted_here : (host : Host) (own : OwnFiles) (pattern : Key) (after : Option Key) (k : Key) (count : ℕ) (b : Bool) → Skips after (IsInNeither host own) (Some k) → (is_match pattern k && has host own k) ≡ b
    → CountedTo host own pattern after count → CountedTo host own pattern (Some k) (count + cond b 1 0)
counted_here host own pattern after k count b least e h =
    let rest = matched pattern (filter (λ e. is_above (Some k) e.0) (entries (shapes host own))) in
    let split = ap (matched pattern) (begin_here host own after k least) ∙ matched_here pattern k (get (shapes host own) k) _ ∙ ap (λ t. cond (is_match pattern k && t) 1 0 + rest) (there host own k) ∙ ap (λ t. cond t 1 0 + rest) e in
    let grouped : count + cond b 1 0 + rest ≡ count + (cond b 1 0 + rest) = omega arith in
    grouped ∙ ap (λ n. count + n) (sym split) ∙ h

pub counted_end : (host : Host) (own : OwnFiles) (pattern : Key) (after : Option Key) (count : ℕ) → EachAbove after (IsInNeither host own)
    → CountedTo host own pattern after count → count ≡ matched pattern (entries (shapes host own))
counted_end host own pattern after count none h =
    let left = ap (matched pattern) (ends nat_list_cmp_total same_key (is_above after) (entries (shapes host own)) (λ x a. sym (get-entries (shapes host own) x) ∙ nothing_listed host own x (none x a))) in
    let all : count ≡ count + 0 = omega arith in
    all ∙ ap (λ n. count + n) (sym left) ∙ h
