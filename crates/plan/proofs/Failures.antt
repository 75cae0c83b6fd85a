-- A plan that is not carried out.
use Rattle.std.proofs.Common.{◌≡◌, ◌<◌, ◌++◌, ◌∙◌, ◌∷◌, [], ℕ, inl, inr, List, Option, Some, None, Ok, Err, OnOk, OnErr, false, true, is_err, ap, get_or, length, refl, subst, sym, ◌+◌, ◌≤◌, arith, drop, length-append, take, zero, suc, IfSome}
use Rattle.std.specs.List.{slice_get}
use Rattle.std.specs.Prelude.{Result}
use Rattle.std.proofs.Math.ListN.{get_or-append}
use Rattle.std.proofs.lemmas.List.{drop-append-le, drop-take, drop_all}
use Rattle.std.proofs.lemmas.Option.{get_or_from_slice_get, slice_get-get_or, slice_get_within}
use Rattle.folders.specs.Failures.{AddsPaths}
use Rattle.folders.specs.Faults.{FailsBy}
use Rattle.folders.specs.FileSystem.{AddsOnly, Becomes, FileBytes, Path}
use Rattle.plan.specs.Carries.{FailsOne}
use Rattle.plan.specs.Faults.{IsUncommitted, IsUnprepared, path_at, paths_for, trouble_paths}
use Rattle.plan.specs.Plans.{path_of, temporary_of, with_prepared}
use Rattle.plan.specs.declared.deed.Deed.{Deed}
use Rattle.plan.specs.declared.looking.Trouble.{Trouble}
use Rattle.plan.specs.declared.looking.Trouble.TheVariants.{Failed}
use Rattle.plan.proofs.Preparing.{one_less}
use Rattle.folders.specs.declared.fault.Fault.{Fault}
use Rattle.folders.specs.declared.fault.Failure.{Failure}
use Rattle.folders.specs.declared.fault.Failure.TheVariants.{AtFault, OutOfMemory}

pub adds_nothing : (paths : List Path) (before after : Option FileBytes) → after ≡ before → AddsOnly paths before after
adds_nothing paths None after same = tt
adds_nothing paths (Some files) after same = (files, same, λ p. inl refl)

pub fails_weaker : (P Q : Fault → Type 0) → ((fault : Fault) → P fault → Q fault) → (f : Failure) → FailsBy P f → FailsBy Q f
fails_weaker P Q weaker (AtFault fault) h = weaker fault h
fails_weaker P Q weaker OutOfMemory h = tt

-- What a result says that is an error, or none.
pub on_ok : {T E P : Type 0} (r : Result T E) → is_err r ≡ false → OnOk r P → P
on_ok (Ok x) e p = p
on_ok (Err x) e p = cc

pub on_err : {T E P : Type 0} (r : Result T E) → is_err r ≡ true → OnErr r P → P
on_err (Ok x) e p = cc
on_err (Err x) e p = p

pub none_failed : {T E : Type 0} (paths : List Path) (r : Result T E) (before after : List Path) → is_err r ≡ false → AddsPaths (λ _. paths) r before after → after ≡ before
none_failed paths (Ok x) before after e h = h
none_failed paths (Err x) before after e h = cc

pub one_failed : {T E : Type 0} (paths : List Path) (r : Result T E) (before after : List Path) → is_err r ≡ true → AddsPaths (λ _. paths) r before after → after ≡ paths ++ before
one_failed paths (Ok x) before after e h = cc
one_failed paths (Err x) before after e h = h

-- The item at a place of a list.
pub item_at : {X : Type 0} (xs : List X) (n : ℕ) (x : X) → n < length xs → x ≡ get_or xs n x → slice_get xs n ≡ Some x
item_at xs n x h e = slice_get-get_or xs n x h ∙ ap (λ y. Some y) (sym e)

-- The rest of a list after its first items.
pub rest_at : {X : Type 0} (front rest all : List X) (n : ℕ) (x : X) → all ≡ front ++ rest → n < length front → length front ≤ n + 1 → x ≡ get_or front n x → drop n all ≡ x ∷ rest
rest_at front rest all n x is less le e =
    ap (drop n) is ∙ drop-append-le n front rest (omega arith) ∙ ap (λ xs. xs ++ rest) (one_less front n x less e ∙ ap (λ xs. x ∷ xs) (drop_all (n + 1) front le))

-- The item at a place alone.
pub alone_at : {X : Type 0} (xs : List X) (n : ℕ) (x : X) → slice_get xs n ≡ Some x → drop n (take (n + 1) xs) ≡ x ∷ []
alone_at xs n x here = drop-take n 1 xs ∙ ap (take 1) (one_less xs n x (slice_get_within xs n x here) (sym (get_or_from_slice_get xs n x x here)))

pub alone_fails : {C : Type 0} (deeds : List (Deed C)) (n : ℕ) (f : Failure) → IsUncommitted (drop n (take (n + 1) deeds)) f
    → IfSome (slice_get deeds n) (λ d. IsUncommitted (d ∷ []) f)
alone_fails deeds n f h = by (slice_get deeds n) refl where
  by : (o : Option (Deed _)) → slice_get deeds n ≡ o → IfSome o (λ d. IsUncommitted (d ∷ []) f)
  by None here = tt
  by (Some d) here = subst (λ xs. IsUncommitted xs f) (alone_at deeds n d here) h

pub still_at : {X : Type 0} (xs : List X) (n : ℕ) → slice_get (take (suc n) xs) n ≡ slice_get xs n
still_at [] n = refl
still_at (x ∷ xs) zero = refl
still_at (x ∷ xs) (suc n) = still_at xs n

pub path_there : {C : Type 0} (front rest all : List (Deed C)) (n : ℕ) (d : Deed C) → all ≡ front ++ rest → n < length front → d ≡ get_or front n d → path_at all n ≡ path_of d ∷ []
path_there front rest all n d is less e =
    ap (paths_for Failed) (ap (λ xs. slice_get xs n) is ∙ item_at (front ++ rest) n d (omega (arith, less, length-append front rest)) (e ∙ sym (get_or-append front rest d n less)))

pub same_item : {X : Type 0} (xs : List X) (n : ℕ) {x y : X} → slice_get xs n ≡ Some x → slice_get xs n ≡ Some y → x ≡ y
same_item xs n p q = cc

-- The failure of a deed names the path at which the file system failed.
pub same_paths : {C : Type 0} (deeds : List (Deed C)) (n : ℕ) (d : Deed C) (trouble : Trouble) (told now start new : List Path) → slice_get deeds n ≡ Some d
    → told ≡ paths_for trouble (slice_get deeds n) → new ≡ trouble_paths (path_of d) trouble ++ now → now ≡ start → new ≡ told ++ start
same_paths deeds n d trouble told now start new here is fails same =
    fails ∙ ap (λ x. trouble_paths (path_of d) trouble ++ x) same ∙ ap (λ x. x ++ start) (sym (is ∙ ap (paths_for trouble) here))

module _ {C : Type 0} (bytes : C → List ℕ) (deeds : List (Deed C)) (n : ℕ) (d : Deed C) (here : slice_get deeds n ≡ Some d) where
  -- The contents of a deed could not be written.
  pub one_unprepared : (middle after : Option FileBytes) (f : Failure) → AddsOnly (temporary_of d) middle after → FailsBy (IsUnprepared (slice_get deeds n)) f
      → FailsOne bytes (slice_get deeds n) middle after f
  one_unprepared middle after f adds h =
      subst (λ o. FailsOne bytes o middle after f) (sym here) (inl (adds, subst (λ o. FailsBy (IsUnprepared o) f) here h))

  -- It was prepared and could not be done.
  pub one_uncommitted : (middle prepared after : Option FileBytes) (f : Failure) → Becomes middle prepared (with_prepared bytes d) → after ≡ prepared
      → IsUncommitted (d ∷ []) f → FailsOne bytes (slice_get deeds n) middle after f
  one_uncommitted middle prepared after f p same h =
      subst (λ o. FailsOne bytes o middle after f) (sym here) (inr (subst (λ x. Becomes middle x (with_prepared bytes d)) (sym same) p, h))
