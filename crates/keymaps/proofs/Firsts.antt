-- A set with one element apart is the set of all its elements.
use Rattle.std.proofs.Common.{◌≡◌, ◌≢◌, ℕ, ◌+◌, ◌&&◌, nat_eq, Result, Ok, Err, Bool, true, false, cond, is_some, Some, None, Option, refl, sym, ap, subst, ◌∙◌}
use Rattle.std.specs.declared.cmp.Ordering.{Ordering}
use Rattle.std.specs.Ordering.{eq_by_cmp}
use Rattle.std.specs.Option.{IfNone, IfSome}
use Rattle.std.specs.Result.{OnOk, OnErr}
use Rattle.std.specs.Bool.{Decides}
use Rattle.std.specs.Cmp.{IsTotalOrder}
use Rattle.std.specs.Cmp.Lexicographic.{pointwise}
use Rattle.std.proofs.lemmas.Bool.Decides.{Decides-eqb}
use Rattle.std.proofs.lemmas.Slice.Eq.{slice_eq-Decides}
use Rattle.filenames.specs.Names.{Key}
use Rattle.std.specs.FinMap.{FinMap, IsAntisymmetric, empty, get, contains_key, insert, remove, len, get-empty, get-insert, get-remove, len-empty, len-insert, same_map}
use Rattle.keymaps.specs.Walks.{IsAbsent}
use Rattle.keymaps.specs.Firsts.{with_first, IsFirstApart}
use Rattle.keymaps.proofs.Views.{key_of, get_here, get_apart, insert_same, remove_back, same_pair}

swap : {A : Type 0} (a b : Bool) (x z : A) → cond a x (cond b x z) ≡ cond b x (cond a x z)
swap true true x z = refl
swap true false x z = refl
swap false b x z = refl

apart_swap : {A : Type 0} (a b : Bool) (x y z : A) → (a ≡ true → b ≡ true → ⊥) → cond a x (cond b y z) ≡ cond b y (cond a x z)
apart_swap true true x y z h = absurd (h refl refl)
apart_swap true false x y z h = refl
apart_swap false b x y z h = refl

module _ {K : Type 0} {R : K → K → Ordering} (o : IsTotalOrder R) (same : IsAntisymmetric R) where
  insert_swap : (m : FinMap R (Unit {0})) (a b : K) → insert (insert m a tt) b tt ≡ insert (insert m b tt) a tt
  insert_swap m a b = same_map o same _ _ (λ q.
      get-insert o (insert m a tt) b tt q ∙ ap (cond (eq_by_cmp R q b) (Some tt)) (get-insert o m a tt q)
      ∙ swap (eq_by_cmp R q b) (eq_by_cmp R q a) _ _
      ∙ sym (get-insert o (insert m b tt) a tt q ∙ ap (cond (eq_by_cmp R q a) (Some tt)) (get-insert o m b tt q)))

  insert_remove : (m : FinMap R (Unit {0})) (a b : K) → a ≢ b → insert (remove m b) a tt ≡ remove (insert m a tt) b
  insert_remove m a b h = same_map o same _ _ (λ q.
      get-insert o (remove m b) a tt q ∙ ap (cond (eq_by_cmp R q a) (Some tt)) (get-remove o m b q)
      ∙ apart_swap (eq_by_cmp R q a) (eq_by_cmp R q b) _ _ _ (λ x y. h (sym (key_of same q a x) ∙ key_of same q b y))
      ∙ sym (get-remove o (insert m a tt) b q ∙ ap (cond (eq_by_cmp R q b) None) (get-insert o m a tt q)))

  absent_apart : (m : FinMap R (Unit {0})) (a b : K) → get m a ≡ None → contains_key m b ≡ true → a ≢ b
  absent_apart m a b none there e = let h : false ≡ true = sym (ap is_some none) ∙ ap (contains_key m) e ∙ there in cc

  absent_without : (m : FinMap R (Unit {0})) (a b : K) → get m a ≡ None → get (remove m b) a ≡ None
  absent_without m a b none = get-remove o m b a ∙ at (eq_by_cmp R a b) where
    at : (c : Bool) → cond c None (get m a) ≡ None
    at true = refl
    at false = none

  module _ (rest set : FinMap R (Unit {0})) (first : Option K) (view : with_first first rest ≡ set) where
    -- ---- without an element apart

    module _ (none : first ≡ None) where
      alone : rest ≡ set
      alone = sym (ap (λ f. with_first f rest) none) ∙ view

      module _ (apart : IsFirstApart first rest) where
        nothing : rest ≡ empty
        nothing = subst (λ f. IsFirstApart f rest) none apart

        pub none_in : (q : K) → get set q ≡ None
        none_in q = ap (λ m. get m q) (sym alone ∙ nothing) ∙ get-empty R q

        pub none_counted : len set ≡ 0
        none_counted = ap len (sym alone ∙ nothing) ∙ len-empty R (Unit {0})

        pub new_apart : (k : K) → IsAbsent rest k
        new_apart k = ap (λ m. get m k) nothing ∙ get-empty R k

    -- ---- with an element apart

    module _ (k : K) (some : first ≡ Some k) where
      inserted : insert rest k tt ≡ set
      inserted = sym (ap (λ f. with_first f rest) some) ∙ view

      pub there_first : (q : K) → k ≡ q → get set q ≡ Some tt
      there_first q e = ap (get set) (sym e) ∙ ap (λ m. get m k) (sym inserted) ∙ get_here o same rest k tt

      pub kept_first : (q : K) → k ≡ q → set ≡ insert set q tt
      kept_first q e = sym (insert_same o same set q tt (there_first q e))

      pub there_rest : (q : K) → k ≢ q → contains_key rest q ≡ contains_key set q
      there_rest q h = sym (ap (λ m. contains_key m q) (sym inserted) ∙ ap is_some (get_apart o same rest k tt q (λ e. h (sym e))))

      pub more : {E : Type 0} (r : Result (Unit {0}) E) (others : FinMap R (Unit {0})) (q : K) → OnOk r (others ≡ insert rest q tt) → OnOk r (with_first first others ≡ insert set q tt)
      more (Ok x) others q h = ap (with_first first) h ∙ ap (λ f. with_first f (insert rest q tt)) some ∙ insert_swap rest q k ∙ ap (λ m. insert m q tt) inserted
      more (Err x) others q h = tt

      -- A key that is neither apart nor one of the others is absent.
      pub absent_too : {E : Type 0} (r : Result (Unit {0}) E) (q : K) → k ≢ q → OnErr r (IsAbsent rest q) → OnErr r (IsAbsent set q)
      absent_too (Ok x) q h none = tt
      absent_too (Err x) q h none = ap (λ m. get m q) (sym inserted) ∙ get_apart o same rest k tt q (λ e. h (sym e)) ∙ none

      module _ (apart : IsFirstApart first rest) where
        absent : get rest k ≡ None
        absent = subst (λ f. IsFirstApart f rest) some apart

        pub one_counted : len rest + 1 ≡ len set
        one_counted = sym (ap len (sym inserted) ∙ len-insert o rest k tt ∙ ap (λ b. cond b (len rest) (len rest + 1)) (ap is_some absent))

        pub more_apart : {E : Type 0} (r : Result (Unit {0}) E) (others : FinMap R (Unit {0})) (q : K) → k ≢ q → OnOk r (others ≡ insert rest q tt) → OnErr r (others ≡ rest) → IsFirstApart first others
        more_apart (Ok x) others q h ok err = subst (λ f. IsFirstApart f others) (sym some) (ap (λ m. get m k) ok ∙ get_apart o same rest q tt k h ∙ absent)
        more_apart (Err x) others q h ok err = subst (IsFirstApart first) (sym err) apart

  -- ---- if one of the others is removed

  pub fewer_apart : (rest : FinMap R (Unit {0})) (first : Option K) (key : K) → contains_key rest key ≡ true → IsFirstApart first rest → IsFirstApart first (remove rest key)
  fewer_apart rest None key there apart = let h : true ≡ false = sym there ∙ ap (λ m. contains_key m key) apart ∙ ap is_some (get-empty R key) in cc
  fewer_apart rest (Some k) key there apart = absent_without rest k key apart

  pub without : (rest set : FinMap R (Unit {0})) (first : Option K) (key : K) → with_first first rest ≡ set → contains_key rest key ≡ true → IsFirstApart first rest → with_first first (remove rest key) ≡ remove set key
  without rest set None key view there apart = ap (λ m. remove m key) view
  without rest set (Some k) key view there apart = insert_remove rest k key (absent_apart rest k key apart there) ∙ ap (λ m. remove m key) view

  pub there_with : (rest set : FinMap R (Unit {0})) (first : Option K) (key : K) → with_first first rest ≡ set → contains_key rest key ≡ true → IsFirstApart first rest → contains_key set key ≡ true
  there_with rest set None key view there apart = ap (λ m. contains_key m key) (sym view) ∙ there
  there_with rest set (Some k) key view there apart =
      ap (λ m. contains_key m key) (sym view)
      ∙ ap is_some (get_apart o same rest k tt key (λ e. absent_apart rest k key apart there (sym e)))
      ∙ there

  -- ---- if the element apart is removed, as the last one

  pub none_left : (rest : FinMap R (Unit {0})) → ((q : K) → IsAbsent rest q) → rest ≡ empty
  none_left rest none = same_map o same _ _ (λ q. none q ∙ sym (get-empty R q))

  pub there_last : (rest set : FinMap R (Unit {0})) (first : Option K) → with_first first rest ≡ set → IfSome first (λ key. contains_key set key ≡ true)
  there_last rest set None view = tt
  there_last rest set (Some k) view = ap is_some (there_first rest set (Some k) view k refl k refl)

  pub without_last : (rest set : FinMap R (Unit {0})) (first : Option K) → with_first first rest ≡ set → IsFirstApart first rest → IfSome first (λ key. rest ≡ remove set key)
  without_last rest set None view apart = tt
  without_last rest set (Some k) view apart = sym (remove_back o same rest k tt apart) ∙ ap (λ m. remove m k) view

  pub none_last : (rest set : FinMap R (Unit {0})) (first : Option K) → with_first first rest ≡ set → IsFirstApart first rest → IfNone first ((rest ≡ set) × ((q : K) → IsAbsent set q))
  none_last rest set None view apart = (view, none_in rest set None view refl apart)
  none_last rest set (Some k) view apart = tt

-- ---- whether two records are the same

both_told : {P Q : Type 0} (a b : Bool) → Decides a P → Decides b Q → Decides (a && b) (P × Q)
both_told true b p q = (λ h. (p.0 refl, q.0 h), λ h. q.1 h.1)
both_told false b p q = (λ h. cc, λ h. p.1 h.0)

pub place_told : (p : Key × ℕ) (k : Key) (n : ℕ) (r : Bool) → r ≡ (pointwise nat_eq p.0 k && nat_eq p.1 n) → Decides r (p ≡ (k, n))
place_told p k n r e =
    let told = both_told _ _ (slice_eq-Decides Decides-eqb p.0 k _ refl) (Decides-eqb p.1 n) in
    (λ h. same_pair (k, n) p (told.0 (sym e ∙ h)).0 (told.0 (sym e ∙ h)).1, λ h. e ∙ told.1 (ap (λ q. q.0) h, ap (λ q. q.1) h))
