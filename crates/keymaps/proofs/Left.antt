-- The number of keys above a bound.
use Rattle.std.proofs.Common.{◌≡◌, ◌+◌, ◌<◌, ◌≤◌, arith, Bool, true, false, cond, is_some, List, [], ◌∷◌, ◌++◌, Some, None, Option, refl, sym, ap, ◌∙◌, length}
use Rattle.std.specs.declared.cmp.Ordering.{Ordering}
use Rattle.std.specs.declared.cmp.Ordering.TheVariants.{Less, Equal, Greater}
use Rattle.std.specs.Ordering.{is_lt, nat_cmp, ordering_reverse}
use Rattle.std.specs.Option.{IfSome, option_map}
use Rattle.std.specs.Borrow.{Bor}
use Rattle.std.specs.Cmp.Lexicographic.{slice_cmp, nat_list_cmp_total}
use Rattle.std.specs.List.{filter}
use Rattle.std.specs.FinMap.{FinMap, find, get, len, len-entries, entries, entries_sorted, get-entries}
use Rattle.filenames.specs.Names.{Key}
use Rattle.keymaps.specs.Order.{is_above, Skips}
use Rattle.keymaps.specs.Walks.{IsAbsent, count_above}
use Rattle.keymaps.proofs.Rising.{here, begins}
use Rattle.keymaps.proofs.Views.{same_key}

pub is_less : (r : Ordering) → is_lt r ≡ true → r ≡ Less
is_less Less h = refl
is_less Equal h = cc
is_less Greater h = cc

-- A key above a key that is above a bound is above the bound.
pub rises : (after : Option Key) (x y : Key) → is_above after x ≡ true → slice_cmp nat_cmp x y ≡ Less → is_above after y ≡ true
rises None x y h l = refl
rises (Some k) x y h l = ap is_lt (nat_list_cmp_total.trans k x y (is_less (slice_cmp nat_cmp k x) h) l)

one : {K X : Type 0} (k : K) (v : Option X) → is_some v ≡ true → (es : List (K × X)) → length es < length (here k v ++ es)
one k None h es = cc
one k (Some v) h es = omega arith

-- There are fewer keys above the least key above a bound than above the bound.
pub fewer : {X : Type 0} (m : FinMap (slice_cmp nat_cmp) X) (after : Option Key) (k : Key) → is_above after k ≡ true → is_some (get m k) ≡ true
    → ((x : Key) → is_above after x ≡ true → slice_cmp nat_cmp x k ≡ Less → get m x ≡ None) → count_above m (Some k) < count_above m after
unfolding count_above
fewer m after k pk there none =
    let split = begins nat_list_cmp_total same_key (is_above after) (rises after) k pk (entries m) (entries_sorted m) (λ x px l. sym (get-entries m x) ∙ none x px l) in
    rw split (one k (find (slice_cmp nat_cmp) k (entries m)) (ap is_some (sym (get-entries m k)) ∙ there) (filter (λ e. is_lt (slice_cmp nat_cmp k e.0)) (entries m)))

filter_fewer : {X : Type 0} (p q : X → Bool) → ((x : X) → p x ≡ true → q x ≡ true) → (xs : List X) → length (filter p xs) ≤ length (filter q xs)
filter_fewer p q h [] = omega arith
filter_fewer p q h (x ∷ xs) =
    let rest = filter_fewer p q h xs in
    elim (p x) as (λ b. p x ≡ b → length (cond b (x ∷ filter p xs) (filter p xs)) ≤ length (cond (q x) (x ∷ filter q xs) (filter q xs))) [
      | true ↦ λ e. rw (h x e) (omega (arith, rest))
      | false ↦ λ e. elim (q x) as (λ b. length (filter p xs) ≤ length (cond b (x ∷ filter q xs) (filter q xs))) [ true ↦ omega (arith, rest) | false ↦ rest ]
    ] refl

-- There are no more keys above a key above a bound than above the bound.
pub no_more : {X : Type 0} (m : FinMap (slice_cmp nat_cmp) X) (after : Option Key) (k : Key) → is_above after k ≡ true → count_above m (Some k) ≤ count_above m after
unfolding count_above
no_more m after k pk = filter_fewer (λ e. is_above (Some k) e.0) (λ e. is_above after e.0) (λ e h. rises after k e.0 pk (is_less (slice_cmp nat_cmp k e.0) h)) (entries m)

-- ---- two maps

-- If there are fewer keys of the first map past a key above a bound, there are fewer of both together.
pub fewer_by_first : {X Y : Type 0} (m : FinMap (slice_cmp nat_cmp) X) (n : FinMap (slice_cmp nat_cmp) Y) (after : Option Key) (k : Key) → is_above after k ≡ true
    → count_above m (Some k) < count_above m after → count_above m (Some k) + count_above n (Some k) < count_above m after + count_above n after
fewer_by_first m n after k above fewer = let more = no_more n after k above in omega (arith, more, fewer)

-- The same for the second map.
pub fewer_by_second : {X Y : Type 0} (m : FinMap (slice_cmp nat_cmp) X) (n : FinMap (slice_cmp nat_cmp) Y) (after : Option Key) (k : Key) → is_above after k ≡ true
    → count_above n (Some k) < count_above n after → count_above m (Some k) + count_above n (Some k) < count_above m after + count_above n after
fewer_by_second m n after k above fewer = let more = no_more m after k above in omega (arith, more, fewer)

-- If x is above y, y is below x.
pub turned : (x y : Key) → slice_cmp nat_cmp x y ≡ Greater → slice_cmp nat_cmp y x ≡ Less
turned x y greater = nat_list_cmp_total.antisymm y x ∙ ap ordering_reverse greater

pub fewer_past : {X : Type 0} (m : FinMap (slice_cmp nat_cmp) X) (after : Option Key) (r : Option (Bor Key × Bor X)) → IfSome r (λ e. get m e.0.now ≡ Some e.1.now)
    → Skips after (IsAbsent m) (option_map (λ e. e.0.now) r) → IfSome r (λ e. count_above m (Some e.0.now) < count_above m after)
fewer_past m after None there least = tt
fewer_past m after (Some e) there least = fewer m after e.0.now least.0 (ap is_some there) least.1

-- A test that all pass.
pub all_pass : {X : Type 0} (es : List (Key × X)) → filter (λ e. true) es ≡ es
all_pass [] = refl
all_pass (e ∷ es) = ap (λ fs. e ∷ fs) (all_pass es)

-- Without a bound, all keys are counted.
pub left_all : {X : Type 0} (m : FinMap (slice_cmp nat_cmp) X) → count_above m None ≡ len m
unfolding count_above
left_all m = ap length (all_pass (entries m)) ∙ sym (len-entries m)
