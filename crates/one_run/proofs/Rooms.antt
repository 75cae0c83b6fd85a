-- Whether a folder has room for changed files.
use Rattle.std.proofs.Common.{◌≡◌, ◌+◌, ◌≤◌, ℕ, List, Option, Some, None, IfSome, filter, length, not, refl, arith}
use Rattle.std.proofs.lemmas.List.Filters.{length-filter_both}
use Rattle.folders.specs.FileSystem.{FileBytes, Path}
use Rattle.one_run.specs.Room.{is_file}

-- No more of the names are files than there are names.
pub fits_by_names : (o : Option FileBytes) (names : List Path) (drive count : ℕ) (folder : Path) (added most : ℕ) → length names ≡ count → count + added ≤ most
    → IfSome o (λ stored. length (filter (is_file stored drive folder) names) + added ≤ most)
fits_by_names None names drive count folder added most e h = tt
fits_by_names (Some stored) names drive count folder added most e h = omega (arith, e, h, length-filter_both (is_file stored drive folder) (λ name. not (is_file stored drive folder name)) (λ name. refl) names)

-- As many of the names are files as were counted.
pub fits_by_count : (o : Option FileBytes) (names : List Path) (drive count : ℕ) (folder : Path) (added most : ℕ)
    → IfSome o (λ stored. count ≡ length (filter (is_file stored drive folder) names)) → count + added ≤ most
    → IfSome o (λ stored. length (filter (is_file stored drive folder) names) + added ≤ most)
fits_by_count None names drive count folder added most e h = tt
fits_by_count (Some stored) names drive count folder added most e h = omega (arith, e, h)
