-- The numbers below a limit.
use Rattle.std.proofs.Common.{◌≡◌, ℕ, Some, None, Option, List, refl, sym, ap, ◌∙◌, nat_lt}
use Rattle.std.specs.declared.cmp.Ordering.{Ordering}
use Rattle.std.specs.Cmp.{IsTotalOrder, eq_by_cmp_equiv}
use Rattle.std.specs.List.{filter}
use Rattle.std.specs.Map.{lookup, keys_of}
use Rattle.std.specs.BTreeMap.{is_at}
use Rattle.std.specs.List.Sorted.{IsStrictlySortedBy}
use Rattle.std.specs.FinMap.{FinMap, from_entries, get}
use Rattle.std.proofs.lemmas.Map.Entries.{lookup-filter-values, option_filter}
use Rattle.std.proofs.lemmas.Map.Keys.{IsDistinct-from_sorted}
use Rattle.keymaps.specs.Walks.{if_below}
use Rattle.keymaps.proofs.Views.{get_view}

below : (limit : ℕ) (r : Option ℕ) → option_filter (λ n. nat_lt n limit) r ≡ if_below limit r
below limit None = refl
below limit (Some n) = refl

-- The value of a key in the map of the entries below a limit.
pub get_below : {K : Type 0} {R : K → K → Ordering} → IsTotalOrder R → (limit : ℕ) (es fs : List (K × ℕ)) (m : FinMap R ℕ) → from_entries {R = R} es ≡ m → IsStrictlySortedBy R (keys_of es) → fs ≡ filter (λ e. nat_lt e.1 limit) es
    → (q : K) → get (from_entries {R = R} fs) q ≡ if_below limit (get m q)
get_below {R = R} o limit es fs m v sorted is q =
    get_view o fs q
    ∙ ap (lookup (is_at (R q))) is
    ∙ lookup-filter-values (eq_by_cmp_equiv o) (λ n. nat_lt n limit) q es (IsDistinct-from_sorted R (keys_of es) sorted)
    ∙ below limit (lookup (is_at (R q)) es)
    ∙ ap (if_below limit) (sym (get_view o es q) ∙ ap (λ m. get m q) v)
