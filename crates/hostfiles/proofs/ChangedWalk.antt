-- The changed files, by key.
use Rattle.std.proofs.Common.{cond, is_some, List, [], ◌∷◌, ◌++◌, map, ◌≡◌, true, false, ◌&&◌, Option, Some, None, refl, sym, ap, ◌∙◌}
use Rattle.std.specs.Ordering.{nat_cmp}
use Rattle.std.specs.Cmp.Lexicographic.{slice_cmp, nat_list_cmp_total}
use Rattle.std.specs.List.{filter}
use Rattle.std.specs.FinMap.{FinMap, find, get, keys, entries, entries_sorted, get-entries, get-retain_keys}
use Rattle.keymaps.specs.Order.{is_above, EachAbove, Skips, IsLeastAbove}
use Rattle.keymaps.specs.Walks.{IsAbsent}
use Rattle.keymaps.proofs.Views.{same_key}
use Rattle.keymaps.proofs.Left.{all_pass, rises}
use Rattle.keymaps.proofs.Rising.{here, begins, ends}
use Rattle.filenames.specs.Names.{is_sayable}
use Rattle.hostfiles.specs.Hosts.{Key, Host}
use Rattle.hostfiles.specs.Files.{OwnFiles}
use Rattle.hostfiles.specs.Changed.{is_changed_name, changed_names}
use Rattle.hostfiles.proofs.Differences.{untouched_file}

-- A file to which nothing was done is not changed.
pub unchanged : (host : Host) (own : OwnFiles) (x : Key) → get own x ≡ None → is_changed_name host own x ≡ false
unchanged host own x h = ap (λ b. b && is_sayable x) (untouched_file host own x h)

-- ---- all changed names

absent : (host : Host) (own : OwnFiles) (key : Key) → is_changed_name host own key ≡ true → is_some (get own key) ≡ true
absent host own key h = elim (get own key) as (λ e. get own key ≡ e → is_some e ≡ true) [
  | None ↦ λ e. let not : is_changed_name host own key ≡ false = unchanged host own key e in cc
  | Some x ↦ λ e. refl
] refl

get_changed : (host : Host) (own : OwnFiles) (key : Key) → get (changed_names host own) key ≡ cond (is_changed_name host own key) (get own key) None
get_changed host own key = get-retain_keys own (is_changed_name host own) key (λ x h. ap (is_changed_name host own) (sym (same_key key x h)))

pub all_changed : (host : Host) (own : OwnFiles) (key : Key) → is_some (get (changed_names host own) key) ≡ is_changed_name host own key
all_changed host own key = elim (is_changed_name host own key) as (λ b. is_changed_name host own key ≡ b → is_some (get (changed_names host own) key) ≡ b) [
  | true ↦ λ b. ap is_some (get_changed host own key ∙ ap (λ b. cond b (get own key) None) b) ∙ absent host own key b
  | false ↦ λ b. ap is_some (get_changed host own key ∙ ap (λ b. cond b (get own key) None) b)
] refl

-- The keys above a bound.
abbrev pub keys_above : {X : Type 0} → FinMap (slice_cmp nat_cmp) X → Option Key → List Key
keys_above m after = map (λ e. e.0) (filter (λ e. is_above after e.0) (entries m))

pub keys_above_none : {X : Type 0} (m : FinMap (slice_cmp nat_cmp) X) → keys_above m None ≡ keys m
keys_above_none m = ap (λ es. map (λ e. e.0) es) (all_pass (entries m))

head_of : {X : Type 0} (k : Key) (v : Option X) (es : List (Key × X)) → is_some v ≡ true → map (λ e. e.0) (here k v ++ es) ≡ k ∷ map (λ e. e.0) es
head_of k None es h = cc
head_of k (Some v) es h = refl

-- They begin at the least one.
pub keys_above_least : {X : Type 0} (m : FinMap (slice_cmp nat_cmp) X) (after : Option Key) (k : Key) → is_some (get m k) ≡ true
    → Skips after (IsAbsent m) (Some k) → keys_above m after ≡ k ∷ keys_above m (Some k)
keys_above_least m after k there least =
    ap (λ es. map (λ e. e.0) es) (begins nat_list_cmp_total same_key (is_above after) (rises after) k least.0 (entries m) (entries_sorted m) (λ x a l. sym (get-entries m x) ∙ least.1 x a l))
    ∙ head_of k (find (slice_cmp nat_cmp) k (entries m)) (filter (λ e. is_above (Some k) e.0) (entries m)) (ap is_some (sym (get-entries m k)) ∙ there)

pub keys_above_end : {X : Type 0} (m : FinMap (slice_cmp nat_cmp) X) (after : Option Key) → EachAbove after (IsAbsent m) → keys_above m after ≡ []
keys_above_end m after none = ap (λ es. map (λ e. e.0) es) (ends nat_list_cmp_total same_key (is_above after) (entries m) (λ x a. sym (get-entries m x) ∙ none x a))

lacks : (host : Host) (own : OwnFiles) (key : Key) → is_changed_name host own key ≡ false → get (changed_names host own) key ≡ None
lacks host own key h = get_changed host own key ∙ ap (λ b. cond b (get own key) None) h

-- The changed keys above a bound begin at the least changed name above it.
pub changed_next : (host : Host) (own : OwnFiles) (after : Option Key) (k : Key) → IsLeastAbove after (is_changed_name host own) (Some k)
    → keys_above (changed_names host own) after ≡ k ∷ keys_above (changed_names host own) (Some k)
changed_next host own after k least =
    keys_above_least (changed_names host own) after k (all_changed host own k ∙ least.1) (least.0, λ x a l. lacks host own x (least.2 x a l))

pub changed_none : (host : Host) (own : OwnFiles) (after : Option Key) → IsLeastAbove after (is_changed_name host own) None
    → keys_above (changed_names host own) after ≡ []
changed_none host own after none = keys_above_end (changed_names host own) after (λ x a. lacks host own x (none x a))
