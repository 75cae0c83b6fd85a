-- The map with the entries of a tree agrees with the tree.
use Rattle.std.proofs.Common.{Result, Ok, Err, ◌≡◌, ◌≢◌, Bool, true, false, cond, is_some, List, [], ◌∷◌, Some, None, Option, refl, sym, ap, subst, ◌∙◌, ◌+◌, ◌<◌, length, suc, arith}
use Rattle.std.specs.Option.{IsSome}
use Rattle.std.specs.Result.{OnErr}
use Rattle.std.specs.declared.cmp.Ordering.{Ordering}
use Rattle.keymaps.specs.Order.{record_cmp}
use Rattle.std.proofs.lemmas.Cmp.{on_total, then_total}
use Rattle.std.proofs.lemmas.Map.Lookups.{exact_pairs, exact_unsigned}
use Rattle.std.specs.Cmp.{nat_cmp_total, IsTotalOrder, eq_by_cmp_equiv, Equal-is}
use Rattle.std.specs.Map.{lookup}
use Rattle.std.specs.BTreeMap.{is_at}
use Rattle.std.specs.Ordering.{nat_cmp, eq_by_cmp, is_eq, is_gt, ordering_reverse}
use Rattle.std.specs.declared.cmp.Ordering.TheVariants.{Less, Greater}
use Rattle.std.specs.Prelude.{T, map}
use Rattle.std.specs.List.{AllByRecursion}
use Rattle.std.specs.List.Sorted.{IsStrictlySortedBy}
use Rattle.std.specs.Cmp.Lexicographic.{slice_cmp, nat_list_cmp_total}
use Rattle.std.specs.FinMap.{FinMap, IsAntisymmetric, slice_cmp-IsAntisymmetric, nat_cmp-IsAntisymmetric, find, from_entries, get, insert, remove, get-from_entries, get-insert, get-remove, same_map, len, len-empty, len-insert}

module _ {K X : Type 0} (R : K → K → Ordering) where
  pub find_lookup : (es : List (K × X)) (q : K) → find R q es ≡ lookup (is_at (R q)) es
  find_lookup [] q = refl
  find_lookup (e ∷ es) q = ap (cond (is_at (R q) e.0) (Some e.1)) (find_lookup es q)

module _ {K X : Type 0} {R : K → K → Ordering} (o : IsTotalOrder R) where
  pub get_view : (es : List (K × X)) (q : K) → get (from_entries {R = R} es) q ≡ lookup (is_at (R q)) es
  get_view es q = get-from_entries o es q ∙ find_lookup R es q

  pub insert_view : IsAntisymmetric R → (es fs : List (K × X)) (k : K) (v : X) → ((q : K) → lookup (is_at (R q)) fs ≡ cond (is_at (R k) q) (Some v) (lookup (is_at (R q)) es)) → from_entries {R = R} fs ≡ insert (from_entries es) k v
  insert_view same es fs k v h = same_map o same _ _ (λ q.
      get_view fs q ∙ h q ∙ ap (λ b. cond b (Some v) (lookup (is_at (R q)) es)) ((eq_by_cmp_equiv o).symm k q)
      ∙ sym (get-insert o (from_entries es) k v q ∙ ap (cond (is_at (R q) k) (Some v)) (get_view es q)))

  pub remove_view : IsAntisymmetric R → (es fs : List (K × X)) (k : K) → ((q : K) → lookup (is_at (R q)) fs ≡ cond (is_at (R k) q) None (lookup (is_at (R q)) es)) → from_entries {R = R} fs ≡ remove (from_entries es) k
  remove_view same es fs k h = same_map o same _ _ (λ q.
      get_view fs q ∙ h q ∙ ap (λ b. cond b None (lookup (is_at (R q)) es)) ((eq_by_cmp_equiv o).symm k q)
      ∙ sym (get-remove o (from_entries es) k q ∙ ap (cond (is_at (R q) k) None) (get_view es q)))

twice : {A : Type 0} (b : Bool) (x y z : A) → cond b x (cond b y z) ≡ cond b x z
twice true x y z = refl
twice false x y z = refl

over : {A : Type 0} (a b : Bool) (w u v z : A) → cond a w (cond b u (cond a v z)) ≡ cond a w (cond b u z)
over true b w u v z = refl
over false b w u v z = refl

kept : {A : Type 0} (b : Bool) (x z : A) → (b ≡ true → x ≡ z) → cond b x z ≡ z
kept true x z h = h refl
kept false x z h = refl

other : {A : Type 0} (b : Bool) (x z : A) → (b ≡ true → ⊥) → cond b x z ≡ z
other true x z h = absurd (h refl)
other false x z h = refl

pub absent_of : {X : Type 0} (r : Option X) → is_some r ≡ false → r ≡ None
absent_of None h = refl
absent_of (Some x) h = cc

some_either : {X : Type 0} (b : Bool) (v : X) (r : Option X) → is_some r ≡ true → is_some (cond b (Some v) r) ≡ true
some_either true v r h = refl
some_either false v r h = h

pub key_of : {K : Type 0} {R : K → K → Ordering} → IsAntisymmetric R → (a b : K) → eq_by_cmp R a b ≡ true → a ≡ b
key_of {R = R} same a b e = same a b ((Equal-is (R a b)).0 e)

module _ {K X : Type 0} {R : K → K → Ordering} (o : IsTotalOrder R) (same : IsAntisymmetric R) where
  pub insert_twice : (m : FinMap R X) (k : K) (v w : X) → insert (insert m k v) k w ≡ insert m k w
  insert_twice m k v w = same_map o same _ _ (λ q.
      get-insert o (insert m k v) k w q ∙ ap (cond (eq_by_cmp R q k) (Some w)) (get-insert o m k v q)
      ∙ twice (eq_by_cmp R q k) _ _ _ ∙ sym (get-insert o m k w q))

  -- Inserting the value that a key has changes nothing.
  pub insert_same : (m : FinMap R X) (k : K) (w : X) → get m k ≡ Some w → insert m k w ≡ m
  insert_same m k w h = same_map o same _ _ (λ q.
      get-insert o m k w q ∙ kept (eq_by_cmp R q k) _ _ (λ e. sym h ∙ ap (get m) (sym (key_of same q k e))))

  pub remove_back : (m : FinMap R X) (k : K) (v : X) → get m k ≡ None → remove (insert m k v) k ≡ m
  remove_back m k v h = same_map o same _ _ (λ q.
      get-remove o (insert m k v) k q ∙ ap (cond (eq_by_cmp R q k) None) (get-insert o m k v q)
      ∙ twice (eq_by_cmp R q k) _ _ _ ∙ kept (eq_by_cmp R q k) _ _ (λ e. sym h ∙ ap (get m) (sym (key_of same q k e))))

  pub get_here : (m : FinMap R X) (k : K) (v : X) → get (insert m k v) k ≡ Some v
  get_here m k v = get-insert o m k v k ∙ ap (λ b. cond b (Some v) (get m k)) ((eq_by_cmp_equiv o).refl k)

  pub get_apart : (m : FinMap R X) (k : K) (v : X) (q : K) → q ≢ k → get (insert m k v) q ≡ get m q
  get_apart m k v q h = get-insert o m k v q ∙ other (eq_by_cmp R q k) _ _ (λ e. h (key_of same q k e))

  -- A key with a value still has one after any insertion.
  pub there_still : (m : FinMap R X) (k : K) (v : X) (q : K) → is_some (get m q) ≡ true → is_some (get (insert m k v) q) ≡ true
  there_still m k v q h = ap is_some (get-insert o m k v q) ∙ some_either (eq_by_cmp R q k) v (get m q) h

  -- The first of two values inserted at the same key does not matter.
  pub insert_over : (m : FinMap R X) (k j : K) (v u w : X) → insert (insert (insert m k v) j u) k w ≡ insert (insert m j u) k w
  insert_over m k j v u w = same_map o same _ _ (λ q.
      get-insert o _ k w q ∙ ap (cond (eq_by_cmp R q k) (Some w)) (get-insert o _ j u q ∙ ap (cond (eq_by_cmp R q j) (Some u)) (get-insert o m k v q))
      ∙ over (eq_by_cmp R q k) (eq_by_cmp R q j) _ _ _ _
      ∙ sym (get-insert o _ k w q ∙ ap (cond (eq_by_cmp R q k) (Some w)) (get-insert o m j u q)))

  pub there_now : (m n : FinMap R X) (k : K) (v : X) → n ≡ insert m k v → is_some (get n k) ≡ true
  there_now m n k v h = ap (λ x. is_some (get x k)) h ∙ ap is_some (get_here m k v)

-- Keys are ordered byte by byte.
pub same_key : IsAntisymmetric (slice_cmp nat_cmp)
same_key = slice_cmp-IsAntisymmetric nat_cmp-IsAntisymmetric

pub places_total : IsTotalOrder record_cmp
places_total = then_total (on_total (λ p. p.0) nat_list_cmp_total) (on_total (λ p. p.1) nat_cmp_total)

pub same_place : IsAntisymmetric record_cmp
same_place a b h = exact_pairs (slice_cmp nat_cmp) nat_cmp same_key exact_unsigned a b h

-- What holds holds on any `Err`.
pub on_err : {A E P : Type 0} (r : Result A E) → P → OnErr r P
on_err (Ok x) p = tt
on_err (Err e) p = p

none_of : {X : Type 0} (r : Option X) → (is_some r ≡ true → ⊥) → r ≡ None
none_of None h = refl
none_of (Some x) h = absurd (h refl)

not_over : (r : Ordering) → r ≡ Greater → is_gt r ≡ false → ⊥
not_over r g h = subst (λ b. T b) (sym (ap is_gt g) ∙ h) tt

module _ {K X : Type 0} {R : K → K → Ordering} (o : IsTotalOrder R) where
  -- The map returns what the tree returns.
  pub seen_at : (es : List (K × X)) (m : FinMap R X) → from_entries {R = R} es ≡ m → (q : K) (r : Option X) → lookup (is_at (R q)) es ≡ r → get m q ≡ r
  seen_at es m v q r h = sym (ap (λ m. get m q) v) ∙ get_view o es q ∙ h

  -- A key below the least key with a value has none.
  pub below_least : (es : List (K × X)) (m : FinMap R X) → from_entries {R = R} es ≡ m → (k q : K) → (is_some (lookup (is_at (R q)) es) ≡ true → is_gt (R k q) ≡ false) → R q k ≡ Less → get m q ≡ None
  below_least es m v k q h l = seen_at es m v q None (none_of _ (λ s. not_over (R k q) (o.antisymm k q ∙ ap ordering_reverse l) (h s)))

abbrev nothing : {X : Type 0} → Option X
nothing = None

none_is_some : (X : Type 0) → IsSome {T = X} nothing → ⊥
none_is_some X h = cc

-- ---- the number of keys

module _ {K X : Type 0} {R : K → K → Ordering} (o : IsTotalOrder R) where
  below_find : (k : K) (es : List (K × X)) → AllByRecursion (λ y. R k y ≡ Less) (map (λ e. e.0) es) → find R k es ≡ None
  below_find k [] h = refl
  below_find k (e ∷ es) h = ap (λ r. cond (is_eq r) (Some e.1) (find R k es)) h.0 ∙ below_find k es h.1

  -- If the keys increase, the map has as many keys as the list.
  pub len_view : (es : List (K × X)) → IsStrictlySortedBy R (map (λ e. e.0) es) → len (from_entries {R = R} es) ≡ length es
  unfolding IsStrictlySortedBy
  len_view [] h = len-empty R X
  len_view (e ∷ es) h =
      len-insert o (from_entries es) e.0 e.1
      ∙ ap (λ r. cond (is_some r) (len (from_entries {R = R} es)) (len (from_entries {R = R} es) + 1)) (get-from_entries o es e.0 ∙ below_find e.0 es h.0)
      ∙ ap (λ n. n + 1) (len_view es h.1)
      ∙ (let one : length es + 1 ≡ suc (length es) = omega arith in one)

  -- A map from which nothing can be removed is empty.
  pub empty_after : (es : List (K × X)) → (0 < length es → IsSome {T = K × X} nothing) → (q : K) → lookup (is_at (R q)) es ≡ None
  empty_after [] h q = refl
  empty_after (e ∷ es) h q = absurd (none_is_some (K × X) (h (omega arith)))

pub same_pair : {A B : Type 0} (x y : A × B) → y.0 ≡ x.0 → y.1 ≡ x.1 → y ≡ x
same_pair (a, b) (c, d) p q = ap (λ z. (z, d)) p ∙ ap (λ z. (a, z)) q
