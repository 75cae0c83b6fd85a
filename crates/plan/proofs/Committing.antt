-- Deeds that are committed, one after the other.
use Rattle.std.proofs.Common.{◌≡◌, ◌≢◌, ℕ, ◌+◌, ◌<◌, ◌≤◌, false, List, [], ◌∷◌, ◌++◌, length, get_or, take, drop, Option, Some, None, refl, sym, ap, subst, ◌∙◌}
use Rattle.std.specs.Prelude.{string_bytes, ⊤}
use Rattle.std.specs.FinMap.{get, insert, remove}
use Rattle.std.specs.List.{AllByRecursion}
use Rattle.std.proofs.lemmas.List.{drop_all, take_all}
use Rattle.std.proofs.lemmas.List.Elements.{All-drop, recursion_from_All}
use Rattle.std.proofs.lemmas.Bool.Decides.{not_from_Decides}
use Rattle.std.proofs.lemmas.Slice.Eq.{bytes_eq-Decides}
use Rattle.std.specs.Str.{bytes_eq}
use Rattle.folders.specs.FileSystem.{Becomes, FileBytes, Path, files_after_rename}
use Rattle.plan.specs.Plans.{AreApart, AreFreeFor, AreFreeIn, IsNoTemporary, all_done, all_prepared, committed, files_at, change_of, with_prepared, IsFreeIn, is_first_at, path_of, with_change}
use Rattle.plan.specs.declared.deed.Deed.{Deed}
use Rattle.plan.specs.declared.deed.Deed.TheVariants.{Put, Remove}
use Rattle.plan.proofs.Maps.{apart, free_later, free_without, here, move_past, moved, remove_past, still_free}
use Rattle.plan.proofs.Preparing.{one_less, one_more}

-- A path is not the temporary one of a deed, or of any.
abbrev pub IsNotOf : {C : Type 0} → Path → Deed C → Type 0
IsNotOf p (Put path temporary before contents) = string_bytes temporary ≢ p
IsNotOf p (Remove path before) = ⊤

abbrev pub IsNotOfAny : {C : Type 0} → Path → List (Deed C) → Type 0
IsNotOfAny p deeds = AllByRecursion (IsNotOf p) deeds

not_of : {C : Type 0} (p : Path) (d : Deed C) → is_first_at p d ≡ false → IsNotOf p d
not_of p (Put path temporary before contents) h = λ e. not_from_Decides (bytes_eq (string_bytes temporary) p) (bytes_eq-Decides (string_bytes temporary) p) h e
not_of p (Remove path before) h = tt

not_of_any : {C : Type 0} (p : Path) (deeds : List (Deed C)) → AllByRecursion (λ d. is_first_at p d ≡ false) deeds → IsNotOfAny p deeds
not_of_any p [] h = tt
not_of_any p (d ∷ deeds) h = (not_of p d h.0, not_of_any p deeds h.1)

-- The path of a deed of a list is no temporary one of those after it.
after_it : {C : Type 0} (deeds : List (Deed C)) (n : ℕ) (d : Deed C) (rest : List (Deed C)) → drop n deeds ≡ d ∷ rest → AreApart deeds → IsNotOfAny (path_of d) rest
after_it deeds n d rest split a =
    let here = (subst (AllByRecursion (λ x. IsNoTemporary (path_of x) deeds)) split (recursion_from_All (λ x. IsNoTemporary (path_of x) deeds) (drop n deeds) (All-drop (λ x. IsNoTemporary (path_of x) deeds) n deeds a))).0 in
    not_of_any (path_of d) rest (subst (AllByRecursion (λ x. is_first_at (path_of d) x ≡ false)) split
    (recursion_from_All (λ x. is_first_at (path_of d) x ≡ false) (drop n deeds) (All-drop (λ x. is_first_at (path_of d) x ≡ false) n deeds here))).1

module _ {C : Type 0} (bytes : C → List ℕ) where
  -- Where there is a file, no deed that can be prepared has its temporary path.
  taken_is_not : (p : Path) (v : List ℕ) (deeds : List (Deed C)) (files : FileBytes) → get files p ≡ Some v → AreFreeFor bytes deeds files → IsNotOfAny p deeds
  taken_is_not p v [] files there free = tt
  taken_is_not p v (Put path temporary before contents ∷ deeds) files there free =
      let ne : string_bytes temporary ≢ p = λ e. (let clash : None ≡ Some v = sym free.0 ∙ ap (get files) e ∙ there in cc) in
      (ne, taken_is_not p v deeds (insert files (string_bytes temporary) (bytes contents)) (apart files (string_bytes temporary) (bytes contents) p (λ e. ne (sym e)) ∙ there) free.1)
  taken_is_not p v (Remove path before ∷ deeds) files there free = (tt, taken_is_not p v deeds files there free.1)

  -- Deeds can be prepared as well where each path that was free is free, except for a path that is not the temporary one of any.
  free_as : (p : Path) (deeds : List (Deed C)) (files other : FileBytes) → IsNotOfAny p deeds → ((q : Path) → q ≢ p → get files q ≡ None → get other q ≡ None)
      → AreFreeFor bytes deeds files → AreFreeFor bytes deeds other
  free_as p [] files other n h free = tt
  free_as p (Put path temporary before contents ∷ deeds) files other n h free = (
    h (string_bytes temporary) n.0 free.0,
    free_as p deeds (insert files (string_bytes temporary) (bytes contents)) (insert other (string_bytes temporary) (bytes contents)) n.1
        (λ q ne none. free_later files other (string_bytes temporary) (bytes contents) q none (h q ne (still_free files (string_bytes temporary) (bytes contents) q none)))
        free.1,
  )
  free_as p (Remove path before ∷ deeds) files other n h free = (tt, free_as p deeds files other n.1 h free.1)

  -- A move, or a removal, and the preparation of other deeds.
  move_past_all : (from to : Path) (deeds : List (Deed C)) (files : FileBytes) → IsNotOfAny from deeds → IsNotOfAny to deeds
      → files_after_rename from to (all_prepared bytes deeds files) ≡ all_prepared bytes deeds (files_after_rename from to files)
  move_past_all from to [] files nf nt = refl
  move_past_all from to (Put path temporary before contents ∷ deeds) files nf nt =
      move_past_all from to deeds (insert files (string_bytes temporary) (bytes contents)) nf.1 nt.1
      ∙ ap (all_prepared bytes deeds) (move_past files from to (string_bytes temporary) (bytes contents) nf.0 nt.0)
  move_past_all from to (Remove path before ∷ deeds) files nf nt = move_past_all from to deeds files nf.1 nt.1

  remove_past_all : (p : Path) (deeds : List (Deed C)) (files : FileBytes) → IsNotOfAny p deeds
      → remove (all_prepared bytes deeds files) p ≡ all_prepared bytes deeds (remove files p)
  remove_past_all p [] files n = refl
  remove_past_all p (Put path temporary before contents ∷ deeds) files n =
      remove_past_all p deeds (insert files (string_bytes temporary) (bytes contents)) n.1
      ∙ ap (all_prepared bytes deeds) (remove_past files (string_bytes temporary) p (bytes contents) n.0)
  remove_past_all p (Remove path before ∷ deeds) files n = remove_past_all p deeds files n.1

  -- A deed is committed, while others are prepared.
  commit_first : (d : Deed C) (deeds : List (Deed C)) (files : FileBytes) → IsNotOfAny (path_of d) deeds → AreFreeFor bytes (d ∷ deeds) files
      → committed d (all_prepared bytes (d ∷ deeds) files) ≡ all_prepared bytes deeds (with_change (change_of bytes d) files)
  commit_first (Put path temporary before contents) deeds files apart free =
      let t = string_bytes temporary in
      let p = string_bytes path in
      let v = bytes contents in
      move_past_all t p deeds (insert files t v) (taken_is_not t v deeds (insert files t v) (here files t v) free.1) apart
      ∙ ap (all_prepared bytes deeds) (moved files t p v free.0)
  commit_first (Remove path before) deeds files apart free = remove_past_all (string_bytes path) deeds files apart

  -- The others can still be prepared.
  free_then : (d : Deed C) (deeds : List (Deed C)) (files : FileBytes) → IsNotOfAny (path_of d) deeds → AreFreeFor bytes (d ∷ deeds) files
      → AreFreeFor bytes deeds (with_change (change_of bytes d) files)
  free_then (Put path temporary before contents) deeds files n free =
      free_as (string_bytes path) deeds (insert files (string_bytes temporary) (bytes contents)) (insert files (string_bytes path) (bytes contents)) n
      (λ q ne none. apart files (string_bytes path) (bytes contents) q ne ∙ still_free files (string_bytes temporary) (bytes contents) q none)
      free.1
  free_then (Remove path before) deeds files n free =
      free_as (string_bytes path) deeds files (remove files (string_bytes path)) n (λ q ne none. free_without files (string_bytes path) q none) free.1

  done_more : (xs ys : List (Deed C)) (files : FileBytes) → all_done bytes (xs ++ ys) files ≡ all_done bytes ys (all_done bytes xs files)
  done_more [] ys files = refl
  done_more (x ∷ xs) ys files = done_more xs ys (with_change (change_of bytes x) files)

  -- ---- the loop

  -- The first n deeds are done, the others are prepared, and could be prepared now.
  abbrev pub AreLeft : List (Deed C) → ℕ → Option FileBytes → Type 0
  AreLeft deeds n None = ⊤
  AreLeft deeds n (Some files) = AreFreeFor bytes (drop n deeds) (all_done bytes (take n deeds) files)

  abbrev pub IsAt : List (Deed C) → ℕ → Option FileBytes → Option FileBytes → Type 0
  IsAt deeds n start now = Becomes start now (files_at bytes deeds n) × AreLeft deeds n start

  pub first : (deeds : List (Deed C)) (start now : Option FileBytes) → Becomes start now (all_prepared bytes deeds) → AreFreeIn bytes deeds start → IsAt deeds 0 start now
  first deeds None now b f = (tt, tt)
  first deeds (Some files) now b f = (b, f)

  pub next : (deeds : List (Deed C)) (n : ℕ) (d : Deed C) (start now after : Option FileBytes) → AreApart deeds → n < length deeds → d ≡ get_or deeds n d
      → IsAt deeds n start now → Becomes now after (committed d) → IsAt deeds (n + 1) start after
  next deeds n d None now after named h e p b = (tt, tt)
  next deeds n d (Some files) now after named h e p b =
      let rest = drop (n + 1) deeds in
      let before = all_done bytes (take n deeds) files in
      let split : drop n deeds ≡ d ∷ rest = one_less deeds n d h e in
      let other = after_it deeds n d rest split named in
      let free : AreFreeFor bytes (d ∷ rest) before = subst (λ x. AreFreeFor bytes x before) split p.1 in
      let done : all_done bytes (take (n + 1) deeds) files ≡ with_change (change_of bytes d) before = ap (λ x. all_done bytes x files) (one_more deeds n d h e) ∙ done_more (take n deeds) (d ∷ []) files in
      let moves : after ≡ Some (committed d (all_prepared bytes (drop n deeds) before)) = subst (λ x. Becomes x after (committed d)) p.0 b in (
        moves ∙ ap (λ x. Some (committed d (all_prepared bytes x before))) split ∙ ap (λ x. Some x) (commit_first d rest before other free)
            ∙ ap (λ x. Some (all_prepared bytes rest x)) (sym done),
        subst (AreFreeFor bytes rest) (sym done) (free_then d rest before other free),
      )

  pub last : (deeds : List (Deed C)) (n : ℕ) (start now : Option FileBytes) → length deeds ≤ n → IsAt deeds n start now → Becomes start now (all_done bytes deeds)
  last deeds n None now h p = tt
  last deeds n (Some files) now h p =
      p.0 ∙ ap (λ x. Some (all_prepared bytes x (all_done bytes (take n deeds) files))) (drop_all n deeds h) ∙ ap (λ x. Some (all_done bytes x files)) (take_all n deeds h)

  -- ---- deeds that are done one after another

  -- The next deed was done alone.
  pub one_done : (deeds : List (Deed C)) (n : ℕ) (d : Deed C) (start now middle after : Option FileBytes) → n < length deeds → d ≡ get_or deeds n d
      → Becomes start now (all_done bytes (take n deeds)) → Becomes now middle (with_prepared bytes d) → IsFreeIn d now → Becomes middle after (committed d)
      → Becomes start after (all_done bytes (take (n + 1) deeds))
  one_done deeds n d None now middle after h e p q f b = tt
  one_done deeds n d (Some files) now middle after h e p q f b =
      let before = all_done bytes (take n deeds) files in
      let prepared : middle ≡ Some (with_prepared bytes d before) = subst (λ x. Becomes x middle (with_prepared bytes d)) p q in
      let done : all_done bytes (take (n + 1) deeds) files ≡ with_change (change_of bytes d) before = ap (λ x. all_done bytes x files) (one_more deeds n d h e) ∙ done_more (take n deeds) (d ∷ []) files in
      subst (λ x. Becomes x after (committed d)) prepared b ∙ ap (λ x. Some x) (commit_first d [] before tt (subst (IsFreeIn d) p f, tt)) ∙ ap (λ x. Some x) (sym done)
