-- What each path holds after changes.
use Rattle.std.proofs.Common.{◌≡◌, ◌≢◌, List, [], ◌∷◌, ◌++◌, Some, None, refl, sym, ap, ◌∙◌}
use Rattle.std.specs.FinMap.{get}
use Rattle.std.specs.List.{AllByRecursion}
use Rattle.folders.specs.FileSystem.{FileBytes, Path}
use Rattle.plan.specs.Plans.{Change, with_change, with_changes}
use Rattle.plan.proofs.Maps.{apart, here, removed_apart, removed_here}

-- No change is of this path.
abbrev pub NoneOf : Path → List Change → Type 0
NoneOf p changes = AllByRecursion (λ c. c.0 ≢ p) changes

-- A path that no change is of holds what it held.
pub others : (changes : List Change) (files : FileBytes) (p : Path) → NoneOf p changes → get (with_changes changes files) p ≡ get files p
others [] files p none = refl
others ((path, None) ∷ changes) files p none = others changes (with_change (path, None) files) p none.1 ∙ removed_apart files path p (λ e. none.0 (sym e))
others ((path, Some bytes) ∷ changes) files p none = others changes (with_change (path, Some bytes) files) p none.1 ∙ apart files path bytes p (λ e. none.0 (sym e))

changed_here : (c : Change) (files : FileBytes) → get (with_change c files) c.0 ≡ c.1
changed_here (path, None) files = removed_here files path
changed_here (path, Some bytes) files = here files path bytes

more : (xs ys : List Change) (files : FileBytes) → with_changes (xs ++ ys) files ≡ with_changes ys (with_changes xs files)
more [] ys files = refl
more (x ∷ xs) ys files = more xs ys (with_change x files)

-- The path of the last change of it holds what that says.
pub done : (xs ys : List Change) (c : Change) (files : FileBytes) → NoneOf c.0 ys → get (with_changes (xs ++ c ∷ ys) files) c.0 ≡ c.1
done xs ys c files none =
    ap (λ f. get f c.0) (more xs (c ∷ ys) files) ∙ others ys (with_change c (with_changes xs files)) c.0 none ∙ changed_here c (with_changes xs files)
