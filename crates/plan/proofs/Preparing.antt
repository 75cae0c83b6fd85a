-- Deeds that are prepared, one after the other.
use Rattle.std.proofs.Common.{◌≡◌, ◌⊎◌, inl, inr, ℕ, ◌+◌, ◌<◌, List, [], ◌∷◌, ◌++◌, length, get_or, take, drop, Contains, Option, Some, None, refl, sym, ap, subst, ◌∙◌, arith}
use Rattle.std.proofs.Math.Seq.{take-suc}
use Rattle.std.proofs.Common.{add-one, append-nil}
use Rattle.std.specs.FinMap.{get}
use Rattle.std.proofs.lemmas.Grind.{flat_map-append}
use Rattle.std.proofs.lemmas.List.{drop_more, take-append-drop}
use Rattle.std.proofs.lemmas.List.Elements.{Contains-append_left, Contains-append_right, Contains-append_cases, Contains-push_cases}
use Rattle.folders.specs.FileSystem.{AddsOnly, Becomes, ChangesOnly, FileBytes, Path}
use Rattle.plan.specs.Plans.{AreFreeFor, ArePrepared, IsFreeIn, all_prepared, temporaries, temporary_of, with_prepared}
use Rattle.plan.specs.declared.deed.Deed.{Deed}
use Rattle.plan.specs.declared.deed.Deed.TheVariants.{Put, Remove}
use Rattle.plan.proofs.Maps.{at_insert, still_free}
use Rattle.std.specs.Prelude.{string_bytes}

-- ---- lists

pub one_more : {X : Type 0} (xs : List X) (n : ℕ) (x : X) → n < length xs → x ≡ get_or xs n x → take (n + 1) xs ≡ take n xs ++ x ∷ []
one_more xs n x h e = rw add-one (take-suc xs n x h) ∙ ap (λ y. take n xs ++ y ∷ []) (sym e)

pub one_less : {X : Type 0} (xs : List X) (n : ℕ) (x : X) → n < length xs → x ≡ get_or xs n x → drop n xs ≡ x ∷ drop (n + 1) xs
one_less xs n x h e = drop_more xs n x h ∙ ap (λ y. y ∷ drop (n + 1) xs) (sym e)

pub in_two : (front behind : List Path) (p : Path) → Contains front p ⊎ Contains behind p → Contains (front ++ behind) p
in_two front behind p (inl h) = Contains-append_left front behind p h
in_two front behind p (inr h) = Contains-append_right front behind p h

pub in_one : (t p : Path) → Contains (t ∷ []) p → t ≡ p
in_one t p h = elim (Contains-push_cases [] t p h) [ inl none ↦ let low : none.0 < 0 = none.1 in absurd (omega (arith, low)) | inr e ↦ e ]

pub is_in_one : (t : Path) → Contains (t ∷ []) t
is_in_one t = (0, omega arith, refl)

module _ {C : Type 0} (bytes : C → List ℕ) where
  pub prepared_more : (xs ys : List (Deed C)) (files : FileBytes) → all_prepared bytes (xs ++ ys) files ≡ all_prepared bytes ys (all_prepared bytes xs files)
  prepared_more [] ys files = refl
  prepared_more (x ∷ xs) ys files = prepared_more xs ys (with_prepared bytes x files)

  pub free_more : (xs ys : List (Deed C)) (files : FileBytes) → AreFreeFor bytes xs files → AreFreeFor bytes ys (all_prepared bytes xs files) → AreFreeFor bytes (xs ++ ys) files
  free_more [] ys files p q = q
  free_more (x ∷ xs) ys files p q = (p.0, free_more xs ys (with_prepared bytes x files) p.1 q)

  pub none_prepared : (start : Option FileBytes) → ArePrepared bytes [] start start
  none_prepared None = (tt, tt)
  none_prepared (Some files) = (refl, tt)

  pub next_prepared : (xs : List (Deed C)) (d : Deed C) (start now next : Option FileBytes) → ArePrepared bytes xs start now
      → Becomes now next (with_prepared bytes d) → IsFreeIn d now → ArePrepared bytes (xs ++ d ∷ []) start next
  next_prepared xs d None now next p b f = (tt, tt)
  next_prepared xs d (Some files) now next p b f = (
    subst (λ x. Becomes x next (with_prepared bytes d)) p.0 b ∙ ap (λ x. Some x) (sym (prepared_more xs (d ∷ []) files)),
    free_more xs (d ∷ []) files p.1 (subst (IsFreeIn d) p.0 f, tt),
  )

  -- What prepared deeds have changed.
  one_added : (d : Deed C) (files : FileBytes) (p : Path) → IsFreeIn d (Some files)
      → (get (with_prepared bytes d files) p ≡ get files p) ⊎ (Contains (temporary_of d) p × (get files p ≡ None))
  one_added (Put path temporary before contents) files p free = elim (at_insert files (string_bytes temporary) (bytes contents) p) [
    | inl e ↦ inl e
    | inr e ↦ inr (subst (Contains (string_bytes temporary ∷ [])) (sym e) (is_in_one (string_bytes temporary)), ap (get files) e ∙ free)
  ]
  one_added (Remove path before) files p free = inl refl

  free_before : (d : Deed C) (files : FileBytes) (p : Path) → get (with_prepared bytes d files) p ≡ None → get files p ≡ None
  free_before (Put path temporary before contents) files p none = still_free files (string_bytes temporary) (bytes contents) p none
  free_before (Remove path before) files p none = none

  pub all_added : (xs : List (Deed C)) (files : FileBytes) (p : Path) → AreFreeFor bytes xs files
      → (get (all_prepared bytes xs files) p ≡ get files p) ⊎ (Contains (temporaries xs) p × (get files p ≡ None))
  all_added [] files p free = inl refl
  all_added (x ∷ xs) files p free = elim (all_added xs (with_prepared bytes x files) p free.1) [
    | inl e ↦ elim (one_added x files p free.0) [
      | inl f ↦ inl (e ∙ f)
      | inr f ↦ inr (in_two (temporary_of x) (temporaries xs) p (inl f.0), f.1)
    ]
    | inr e ↦ inr (in_two (temporary_of x) (temporaries xs) p (inr e.0), free_before x files p e.1)
  ]

  one_free : (d : Deed C) (files : FileBytes) (p : Path) → IsFreeIn d (Some files) → Contains (temporary_of d) p → get files p ≡ None
  one_free (Put path temporary before contents) files p free h = ap (get files) (sym (in_one (string_bytes temporary) p h)) ∙ free
  one_free (Remove path before) files p free h = let low : h.0 < 0 = h.1 in absurd (omega (arith, low))

  pub all_free : (xs : List (Deed C)) (files : FileBytes) (p : Path) → AreFreeFor bytes xs files → Contains (temporaries xs) p → get files p ≡ None
  all_free [] files p free h = let low : h.0 < 0 = h.1 in absurd (omega (arith, low))
  all_free (x ∷ xs) files p free h = elim (Contains-append_cases (temporary_of x) (temporaries xs) p h) [
    | inl k ↦ one_free x files p free.0 k
    | inr k ↦ free_before x files p (all_free xs (with_prepared bytes x files) p free.1 k)
  ]

  -- A deed was not prepared, and what was prepared was removed as far as it could be.
  pub stopped : (xs ys : List (Deed C)) (d : Deed C) (start now next last : Option FileBytes) → ArePrepared bytes xs start now
      → AddsOnly (temporary_of d) now next → ChangesOnly (temporaries xs) next last → AddsOnly (temporaries (xs ++ d ∷ ys)) start last
  stopped xs ys d None now next last p a c = tt
  stopped xs ys d (Some files) now next last p a c =
      let a' = subst (λ x. AddsOnly (temporary_of d) x next) p.0 a in
      let c' = subst (λ x. ChangesOnly (temporaries xs) x last) a'.1 c in
      (c'.0, c'.1, λ q. at c'.0 a'.0 (all_prepared bytes xs files) q (c'.2 q) (a'.2 q) (all_added xs files q p.1)) where
        first : (q : Path) → Contains (temporaries xs) q → Contains (temporaries (xs ++ d ∷ ys)) q
        first q h = rw (flat_map-append temporary_of xs (d ∷ ys)) (in_two (temporaries xs) (temporaries (d ∷ ys)) q (inl h))

        middle : (q : Path) → Contains (temporary_of d) q → Contains (temporaries (xs ++ d ∷ ys)) q
        middle q h = rw (flat_map-append temporary_of xs (d ∷ ys)) (in_two (temporaries xs) (temporaries (d ∷ ys)) q (inr (in_two (temporary_of d) (temporaries ys) q (inl h))))

        at : (l n s : FileBytes) (q : Path) → (get l q ≡ get n q) ⊎ Contains (temporaries xs) q
            → (get n q ≡ get s q) ⊎ (Contains (temporary_of d) q × (get s q ≡ None))
            → (get s q ≡ get files q) ⊎ (Contains (temporaries xs) q × (get files q ≡ None))
            → (get l q ≡ get files q) ⊎ (Contains (temporaries (xs ++ d ∷ ys)) q × (get files q ≡ None))
        at l n s q (inr h) _ _ = inr (first q h, all_free xs files q p.1 h)
        at l n s q (inl e) (inl f) (inl g) = inl (e ∙ f ∙ g)
        at l n s q (inl e) (inl f) (inr g) = inr (first q g.0, g.1)
        at l n s q (inl e) (inr f) (inl g) = inr (middle q f.0, sym g ∙ f.1)
        at l n s q (inl e) (inr f) (inr g) = inr (middle q f.0, g.1)

  -- All were prepared, and what was prepared was removed as far as it could be.
  pub discarded : (xs : List (Deed C)) (start now last : Option FileBytes) → ArePrepared bytes xs start now → ChangesOnly (temporaries xs) now last
      → AddsOnly (temporaries xs) start last
  discarded xs None now last p c = tt
  discarded xs (Some files) now last p c =
      let c' = subst (λ x. ChangesOnly (temporaries xs) x last) p.0 c in
      (c'.0, c'.1, λ q. at c'.0 q (c'.2 q) (all_added xs files q p.1)) where
        at : (l : FileBytes) (q : Path) → (get l q ≡ get (all_prepared bytes xs files) q) ⊎ Contains (temporaries xs) q
            → (get (all_prepared bytes xs files) q ≡ get files q) ⊎ (Contains (temporaries xs) q × (get files q ≡ None))
            → (get l q ≡ get files q) ⊎ (Contains (temporaries xs) q × (get files q ≡ None))
        at l q (inr h) _ = inr (h, all_free xs files q p.1 h)
        at l q (inl e) (inl f) = inl (e ∙ f)
        at l q (inl e) (inr f) = inr f

-- ---- what is removed

pub none_changed : (start : Option FileBytes) → ChangesOnly [] start start
none_changed None = tt
none_changed (Some files) = (files, refl, λ p. inl refl)

pub more_changed : (front behind : List Path) (start now next : Option FileBytes) → ChangesOnly front start now → ChangesOnly behind now next → ChangesOnly (front ++ behind) start next
more_changed front behind None now next p q = tt
more_changed front behind (Some files) now next p q =
    let q' = subst (λ x. ChangesOnly behind x next) p.1 q in
    (q'.0, q'.1, λ x. at q'.0 p.0 x (q'.2 x) (p.2 x)) where
      at : (l n : FileBytes) (x : Path) → (get l x ≡ get n x) ⊎ Contains behind x → (get n x ≡ get files x) ⊎ Contains front x → (get l x ≡ get files x) ⊎ Contains (front ++ behind) x
      at l n x (inr h) _ = inr (in_two front behind x (inr h))
      at l n x (inl e) (inr h) = inr (in_two front behind x (inl h))
      at l n x (inl e) (inl f) = inl (e ∙ f)

pub next_changed : {C : Type 0} (deeds : List (Deed C)) (n : ℕ) (d : Deed C) (start now next : Option FileBytes) → n < length deeds → d ≡ get_or deeds n d
    → ChangesOnly (temporaries (take n deeds)) start now → ChangesOnly (temporary_of d) now next → ChangesOnly (temporaries (take (n + 1) deeds)) start next
next_changed deeds n d start now next h e p q =
    rw (one_more deeds n d h e, flat_map-append temporary_of (take n deeds) (d ∷ []), append-nil)
    (more_changed (temporaries (take n deeds)) (temporary_of d) start now next p q)

-- The same at the places of a list.
pub next_of : {C : Type 0} (bytes : C → List ℕ) (deeds : List (Deed C)) (n : ℕ) (d : Deed C) (start now next : Option FileBytes) → n < length deeds → d ≡ get_or deeds n d
    → ArePrepared bytes (take n deeds) start now → Becomes now next (with_prepared bytes d) → IsFreeIn d now → ArePrepared bytes (take (n + 1) deeds) start next
next_of bytes deeds n d start now next h e p b f = rw (one_more deeds n d h e) (next_prepared bytes (take n deeds) d start now next p b f)

pub stopped_at : {C : Type 0} (bytes : C → List ℕ) (deeds : List (Deed C)) (n : ℕ) (d : Deed C) (start now next last : Option FileBytes) → n < length deeds → d ≡ get_or deeds n d
    → ArePrepared bytes (take n deeds) start now → AddsOnly (temporary_of d) now next → ChangesOnly (temporaries (take n deeds)) next last
    → AddsOnly (temporaries deeds) start last
stopped_at bytes deeds n d start now next last h e p a c =
    let parts : take n deeds ++ d ∷ drop (n + 1) deeds ≡ deeds = ap (λ rest. take n deeds ++ rest) (sym (one_less deeds n d h e)) ∙ take-append-drop n deeds in
    subst (λ x. AddsOnly (temporaries x) start last) parts (stopped bytes (take n deeds) (drop (n + 1) deeds) d start now next last p a c)
