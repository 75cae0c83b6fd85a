-- The reports of the plain machine's files are the reports of what was done to the host files.
use Rattle.std.proofs.Common.{◌≡◌, Bool, true, false, not, cond, is_some, List, [], ◌∷◌, ◌++◌, ◌||◌, ◌&&◌, T, map, Option, Some, None, refl, sym, ap, subst, ◌∙◌}
use Rattle.std.proofs.lemmas.Simd.{map-map}
use Rattle.std.specs.List.{list_any}
use Rattle.std.specs.Option.{option_map}
use Rattle.std.specs.Ordering.{nat_cmp, eq_by_cmp}
use Rattle.std.specs.Cmp.Lexicographic.{slice_cmp, nat_list_cmp_total}
use Rattle.std.specs.FinMap.{FinMap, get, contains_key, keys, entries, entries_sorted, get-entries, get-from_entries, get-retain_keys, contains_key-keys}
use Rattle.std.specs.FinMap.Entries.{find, same_entries}
use Rattle.hostfiles.proofs.Views.{same_key}
use Rattle.hostfiles.specs.Names.{is_sayable}
use Rattle.hostfiles.specs.Hosts.{Key, Record, Host}
use Rattle.hostfiles.specs.Files.{OwnFiles, file_contents}
use Rattle.hostfiles.specs.File.{File, contents_of}
use Rattle.hostfiles.specs.Files as files
use Rattle.hostfiles.specs.Changed.{is_changed, is_changed_name, changed_names, changed_keys}
use Rattle.hostfiles.specs.File.{is_same}
use Rattle.hostfiles.proofs.FileLemmas.{any_append, get-files}
use Rattle.hostfiles.proofs.ChangedWalk.{all_changed}
use Rattle.file_calls.proofs.Names.{find-mapped}
use Rattle.machine.specs.PlainFiles.{Files}
use Rattle.machine.specs.ChangedFiles.{contents_in, is_changed_in, is_changed_name_in, keys_of_both, changed_in, changed_keys_in}
use Rattle.machine.proofs.WholeFiles.{sorted-mapped}

-- ---- one file

pub there_laid : (host : Host) (own : OwnFiles) (key : Key) → contains_key (files.files host own) key ≡ files.has host own key
there_laid host own key = ap is_some (get-files host own key) ∙ by (files.has host own key) where
  by : (b : Bool) → is_some (cond b (Some (files.file_of host key (files.entry_at own key))) None) ≡ b
  by true = refl
  by false = refl

pub told_laid : (host : Host) (own : OwnFiles) (key : Key) → contents_in (files.files host own) key ≡ file_contents host own key
told_laid host own key = ap (option_map contents_of) (get-files host own key)

changed_laid : (host : Host) (own : OwnFiles) (key : Key) → is_changed_in host (files.files host own) key ≡ is_changed host own key
changed_laid host own key = ap (λ t. not (is_same t (get host key))) (told_laid host own key)

pub changed_name_laid : (host : Host) (own : OwnFiles) (key : Key) → is_changed_name_in host (files.files host own) key ≡ is_changed_name host own key
changed_name_laid host own key = ap (λ b. b && is_sayable key) (changed_laid host own key)

-- ---- the keys of two maps

abbrev marked : Key → Key × Unit {0}
marked key = (key, tt)

abbrev nothing : {A : Type 0} → A → Unit {0}
nothing x = tt

found : (q : Key) (ks : List Key) → is_some (find (slice_cmp nat_cmp) q (map marked ks)) ≡ list_any (eq_by_cmp (slice_cmp nat_cmp) q) ks
found q [] = refl
found q (k ∷ ks) =
    elim (eq_by_cmp (slice_cmp nat_cmp) q k) as (λ b. is_some (cond b (Some (nothing k)) (find (slice_cmp nat_cmp) q (map marked ks))) ≡ (b || list_any (eq_by_cmp (slice_cmp nat_cmp) q) ks))
    [ true ↦ refl | false ↦ found q ks ]

in_both : (host : Host) (fs : Files) (q : Key) → is_some (get (keys_of_both host fs) q) ≡ (is_some (get host q) || is_some (get fs q))
in_both host fs q =
    ap is_some (get-from_entries nat_list_cmp_total (map marked (keys host ++ keys fs)) q)
    ∙ found q (keys host ++ keys fs)
    ∙ any_append (eq_by_cmp (slice_cmp nat_cmp) q) (keys host) (keys fs)
    ∙ ap (λ b. b || list_any (eq_by_cmp (slice_cmp nat_cmp) q) (keys fs)) (sym (contains_key-keys host q))
    ∙ ap (λ b. is_some (get host q) || b) (sym (contains_key-keys fs q))

-- ---- the changed names

pass : {X : Type 0} (c : Bool) (k : Option X) → is_some k ≡ true → is_some (cond c k None) ≡ c
pass true k h = h
pass false k h = refl

member : {X : Type 0} (f : Option File) (h : Option (List Record)) (s : Bool) (k : Option X) → is_some k ≡ (is_some h || is_some f)
    → is_some (cond (not (is_same (option_map contents_of f) h) && s) k None) ≡ (not (is_same (option_map contents_of f) h) && s)
member None None s k e = refl
member (Some f) None s k e = pass s k e
member None (Some r) s k e = pass s k e
member (Some f) (Some r) s k e = pass (not (is_same (Some (contents_of f)) (Some r)) && s) k e

get_changed : (host : Host) (fs : Files) (q : Key) → get (changed_in host fs) q ≡ cond (is_changed_name_in host fs q) (get (keys_of_both host fs) q) None
get_changed host fs q = get-retain_keys (keys_of_both host fs) (is_changed_name_in host fs) q (λ x h. ap (is_changed_name_in host fs) (sym (same_key q x h)))

all_changed_in : (host : Host) (fs : Files) (q : Key) → is_some (get (changed_in host fs) q) ≡ is_changed_name_in host fs q
all_changed_in host fs q = ap is_some (get_changed host fs q) ∙ member (get fs q) (get host q) (is_sayable q) (get (keys_of_both host fs) q) (in_both host fs q)

present : {A B : Type 0} (a : Option A) (b : Option B) → is_some a ≡ is_some b → option_map nothing a ≡ option_map nothing b
present None None h = refl
present None (Some y) h = cc
present (Some x) None h = cc
present (Some x) (Some y) h = refl

abbrev blank : {A : Type 0} → List (Key × A) → List (Key × Unit {0})
blank es = map (λ e. (e.0, nothing e.1)) es

-- Two maps with the same keys have them in the same order.
same_keys : {A B : Type 0} (m : FinMap (slice_cmp nat_cmp) A) (n : FinMap (slice_cmp nat_cmp) B) → ((q : Key) → is_some (get m q) ≡ is_some (get n q)) → keys m ≡ keys n
same_keys m n same =
    sym (map-map (λ e. e.0) (λ e. (e.0, nothing e.1)) (entries m))
    ∙ ap (map (λ e. e.0)) (same_entries (slice_cmp nat_cmp) nat_list_cmp_total same_key (blank (entries m)) (blank (entries n))
    (subst T (sym (sorted-mapped nothing (entries m))) (entries_sorted m))
    (subst T (sym (sorted-mapped nothing (entries n))) (entries_sorted n))
    (λ q.
    find-mapped nothing q (entries m)
    ∙ ap (option_map nothing) (sym (get-entries m q))
    ∙ present (get m q) (get n q) (same q)
    ∙ ap (option_map nothing) (get-entries n q)
    ∙ sym (find-mapped nothing q (entries n))))
    ∙ map-map (λ e. e.0) (λ e. (e.0, nothing e.1)) (entries n)

pub changed_keys_laid : (host : Host) (own : OwnFiles) → changed_keys_in host (files.files host own) ≡ changed_keys host own
changed_keys_laid host own = same_keys (changed_in host (files.files host own)) (changed_names host own)
    (λ q. all_changed_in host (files.files host own) q ∙ changed_name_laid host own q ∙ sym (all_changed host own q))
