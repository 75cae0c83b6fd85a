-- The keys that a walk over a map passes, in the order of the keys. (This project's own.)
use Rattle.std.specs.Prelude.{◌≡◌, ℕ, Option, Some, None, if◌then◌else◌, length, nat_lt}
use Rattle.std.specs.declared.cmp.Ordering.{Ordering}
use Rattle.std.specs.Ordering.{nat_cmp}
use Rattle.std.specs.List.{filter}
use Rattle.std.specs.Cmp.Lexicographic.{slice_cmp}
use Rattle.std.specs.FinMap.{FinMap, get, entries}
use Rattle.filenames.specs.Names.{Key}
use Rattle.keymaps.specs.Order.{is_above}

-- A key is not in a map.
abbrev pub IsAbsent : {K X : Type 0} {R : K → K → Ordering} → FinMap R X → K → Type 0
IsAbsent m x = get m x ≡ None

-- A key is in neither of two maps.
abbrev pub IsInNeither : {X Y : Type 0} → FinMap (slice_cmp nat_cmp) X → FinMap (slice_cmp nat_cmp) Y → Key → Type 0
IsInNeither first second x = IsAbsent first x × IsAbsent second x

-- The number of keys of a map that are above `after`.
unfoldable pub count_above : {X : Type 0} → FinMap (slice_cmp nat_cmp) X → Option Key → ℕ
count_above m after = length (filter (λ e. is_above after e.0) (entries m))

-- A number, if it is below a limit.
abbrev pub if_below : ℕ → Option ℕ → Option ℕ
if_below limit None = None
if_below limit (Some n) = if nat_lt n limit then Some n else None
