-- Deeds that are added to a plan, and deeds that are looked at.
use Rattle.std.proofs.Common.{◌≡◌, ◌≢◌, ◌<◌, ℕ, ◌+◌, Bool, true, false, cond, List, [], ◌∷◌, ◌++◌, length, get_or, take, take-suc, add-one, All, Option, Some, refl, sym, ap, subst, ◌∙◌}
use Rattle.std.specs.Prelude.{◌||◌}
use Rattle.std.specs.List.{AllByRecursion, list_any, slice_get}
use Rattle.std.specs.Str.{bytes_eq}
use Rattle.std.proofs.lemmas.Bool.Decides.{not_from_Decides}
use Rattle.std.proofs.lemmas.List.Elements.{All-from_recursion, All-push}
use Rattle.std.proofs.lemmas.Option.{get_or_from_slice_get, slice_get_within}
use Rattle.std.proofs.lemmas.Slice.Eq.{bytes_eq-Decides}
use Rattle.folders.specs.FileSystem.{Path, FileBytes}
use Rattle.plan.specs.Plans.{AreApart, AreAsExpected, IsAsExpected, IsNoTemporary, is_at, is_first_at, path_of}
use Rattle.plan.specs.declared.deed.Deed.{Deed}

-- ---- a test that no item passes

both_false : {P : Type 0} (a b : Bool) → (a || b) ≡ false → (a ≡ false → b ≡ false → P) → P
both_false true b h k = cc
both_false false b h k = k refl h

none_passes : {X : Type 0} (p : X → Bool) (xs : List X) → list_any p xs ≡ false → AllByRecursion (λ x. p x ≡ false) xs
none_passes p [] h = tt
none_passes p (x ∷ xs) h = both_false (p x) (list_any p xs) h (λ a b. (a, none_passes p xs b))

pub none_of : {X : Type 0} (p : X → Bool) (xs : List X) → list_any p xs ≡ false → All (λ x. p x ≡ false) xs
none_of p xs h = All-from_recursion (λ x. p x ≡ false) xs (none_passes p xs h)

-- ---- paths that are compared

differ : (a b : Path) → bytes_eq a b ≡ false → a ≢ b
differ a b h = not_from_Decides (bytes_eq a b) (bytes_eq-Decides a b) h

apart_bytes : (a b : Path) → a ≢ b → bytes_eq a b ≡ false
apart_bytes a b ne = by (bytes_eq a b) refl where
  by : (r : Bool) → bytes_eq a b ≡ r → bytes_eq a b ≡ false
  by true e = absurd (ne ((bytes_eq-Decides a b).0 e))
  by false e = e

pub apart_path : (path temporary : Path) → path ≢ temporary → bytes_eq temporary path ≡ false
apart_path path temporary ne = apart_bytes temporary path (λ e. ne (sym e))

module _ {C : Type 0} where
  -- One more deed, whose temporary path is apart from the paths, and whose path is apart from the temporary ones.
  apart_push : (deeds : List (Deed C)) (d : Deed C) → AreApart deeds → IsNoTemporary (path_of d) deeds → All (λ e. is_first_at (path_of e) d ≡ false) deeds
      → is_first_at (path_of d) d ≡ false → AreApart (deeds ++ d ∷ [])
  apart_push deeds d apart own others itself =
      All-push (λ e. IsNoTemporary (path_of e) (deeds ++ d ∷ [])) deeds d
      (λ k x less. All-push (λ f. is_first_at (path_of (get_or deeds k x)) f ≡ false) deeds d (apart k x less) (others k x less))
      (All-push (λ f. is_first_at (path_of d) f ≡ false) deeds d own itself)

  pub pushed : (ok : Bool) (deeds new : List (Deed C)) (d : Deed C) → new ≡ cond ok (deeds ++ d ∷ []) deeds → AreApart deeds → IsNoTemporary (path_of d) deeds
      → All (λ e. is_first_at (path_of e) d ≡ false) deeds → is_first_at (path_of d) d ≡ false → AreApart new
  pushed true deeds new d is apart own others itself = subst AreApart (sym is) (apart_push deeds d apart own others itself)
  pushed false deeds new d is apart own others itself = subst AreApart (sym is) apart

  -- A path that is no temporary one, and not the path of one more deed.
  pub pushed_apart : (ok : Bool) (deeds new : List (Deed C)) (d : Deed C) (path : Path) → new ≡ cond ok (deeds ++ d ∷ []) deeds → IsNoTemporary path deeds
      → is_first_at path d ≡ false → IsNoTemporary path new
  pushed_apart true deeds new d path is others this = subst (IsNoTemporary path) (sym is) (All-push (λ e. is_first_at path e ≡ false) deeds d others this)
  pushed_apart false deeds new d path is others this = subst (IsNoTemporary path) (sym is) others

  turned : (temporary : Path) (deeds : List (Deed C)) → AllByRecursion (λ e. is_at temporary e ≡ false) deeds → AllByRecursion (λ e. bytes_eq temporary (path_of e) ≡ false) deeds
  turned t [] h = tt
  turned t (e ∷ deeds) h = (apart_bytes t (path_of e) (λ same. differ (path_of e) t h.0 (sym same)), turned t deeds h.1)

  -- The temporary path of a deed that is put is no path of the others.
  pub apart_from : (deeds : List (Deed C)) (temporary : Path) → list_any (is_at temporary) deeds ≡ false → All (λ e. bytes_eq temporary (path_of e) ≡ false) deeds
  apart_from deeds temporary none =
      All-from_recursion (λ e. bytes_eq temporary (path_of e) ≡ false) deeds (turned temporary deeds (none_passes (is_at temporary) deeds none))

  -- One more deed is as expected.
  pub one_expected : (files : Option FileBytes) (deeds : List (Deed C)) (n : ℕ) (d : Deed C) → n < length deeds → d ≡ get_or deeds n d
      → AreAsExpected files (take n deeds) → IsAsExpected files d → AreAsExpected files (take (n + 1) deeds)
  one_expected files deeds n d less is first this =
      let more : take (n + 1) deeds ≡ take n deeds ++ d ∷ [] = rw add-one (take-suc deeds n d less) ∙ ap (λ y. take n deeds ++ y ∷ []) (sym is) in
      subst (AreAsExpected files) (sym more) (All-push (IsAsExpected files) (take n deeds) d first this)

-- ---- records that are compared

one_taken : (xs : List (List ℕ)) (n : ℕ) (x : List ℕ) → Some x ≡ slice_get xs n → take (n + 1) xs ≡ take n xs ++ x ∷ []
one_taken xs n x h = rw add-one (take-suc xs n x (slice_get_within xs n x (sym h))) ∙ ap (λ y. take n xs ++ y ∷ []) (get_or_from_slice_get xs n x x (sym h))

-- One more record is the same.
pub one_same : (xs ys : List (List ℕ)) (n : ℕ) (x y : List ℕ) → Some x ≡ slice_get xs n → Some y ≡ slice_get ys n → x ≡ y → take n xs ≡ take n ys → take (n + 1) xs ≡ take (n + 1) ys
one_same xs ys n x y a b e first = one_taken xs n x a ∙ ap (λ z. take n xs ++ z ∷ []) e ∙ ap (λ z. z ++ y ∷ []) first ∙ sym (one_taken ys n y b)
