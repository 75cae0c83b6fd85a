-- The order of keys, byte by byte, and of records of files, by key and then by number; and the least key above another. (This
-- project's own.)
use Rattle.std.specs.Prelude.{◌≡◌, ℕ, Bool, true, false, Option, Some, None}
use Rattle.std.specs.declared.cmp.Ordering.{Ordering}
use Rattle.std.specs.declared.cmp.Ordering.TheVariants.{Less}
use Rattle.std.specs.Ordering.{nat_cmp, is_lt, ordering_then}
use Rattle.std.specs.Cmp.Lexicographic.{slice_cmp}
use Rattle.filenames.specs.Names.{Key}

-- The order of records: by key, then by record number.
abbrev pub record_cmp : Key × ℕ → Key × ℕ → Ordering
record_cmp a b = ordering_then (slice_cmp nat_cmp a.0 b.0) (nat_cmp a.1 b.1)

-- Whether a key is above a given one. Every key is above `None`.
abbrev pub is_above : Option Key → Key → Bool
is_above None q = true
is_above (Some k) q = is_lt (slice_cmp nat_cmp k q)

-- A fact holds for each key above `after`. Every key is above `None`.
abbrev pub EachAbove : Option Key → (Key → Type 0) → Type 0
EachAbove after Fact = (x : Key) → is_above after x ≡ true → Fact x

-- A fact holds for each key above `after` and below k.
abbrev pub EachBetween : Option Key → Key → (Key → Type 0) → Type 0
EachBetween after k Fact = (x : Key) → is_above after x ≡ true → slice_cmp nat_cmp x k ≡ Less → Fact x

-- This key is above `after`, and each key between the two has the fact. If there is no key, each key above `after` has it. Whether
-- the key itself has it is left open.
abbrev pub Skips : Option Key → (Key → Type 0) → Option Key → Type 0
Skips after Fact None = EachAbove after Fact
Skips after Fact (Some k) = (is_above after k ≡ true) × EachBetween after k Fact

-- The least key above `after` that passes a test, or no key if none passes.
abbrev pub IsLeastAbove : Option Key → (Key → Bool) → Option Key → Type 0
IsLeastAbove after test None = EachAbove after (λ x. test x ≡ false)
IsLeastAbove after test (Some k) =
    (is_above after k ≡ true) × (test k ≡ true) × EachBetween after k (λ x. test x ≡ false)
