-- Why deeds are not done. (This project's own.)
use Rattle.std.specs.Prelude.{◌≡◌, ℕ, List, [], ◌∷◌, Option, Some, None, map, slice_get, string_bytes}
use Rattle.folders.specs.FileSystem.{Path}
use Rattle.folders.specs.declared.fault.Failure.{Failure}
use Rattle.folders.specs.declared.fault.Failure.TheVariants.{AtFault}
use Rattle.folders.specs.declared.fault.Fault.{Fault}
use Rattle.folders.specs.declared.fault.Fault.TheVariants.{CannotWrite, CannotMove, Changed, Irregular, Crowded}
use Rattle.plan.specs.Plans.{path_of, temporaries}
use Rattle.plan.specs.declared.deed.Deed.{Deed}
use Rattle.plan.specs.declared.deed.Deed.TheVariants.{Put, Remove}
use Rattle.plan.specs.declared.looking.Stop.{Stop}
use Rattle.plan.specs.declared.looking.Trouble.{Trouble}
use Rattle.plan.specs.declared.looking.Trouble.TheVariants.{Failed}

-- The path at which the file system failed.
abbrev pub trouble_paths : Path → Trouble → List Path
trouble_paths path Failed = path ∷ []
trouble_paths path trouble = []

abbrev pub paths_for : {C : Type 0} → Trouble → Option (Deed C) → List Path
paths_for trouble None = []
paths_for trouble (Some deed) = trouble_paths (path_of deed) trouble

abbrev pub stop_paths : {C : Type 0} → List (Deed C) → Stop → List Path
stop_paths deeds stop = paths_for stop.trouble (slice_get deeds stop.at)

-- The path of the deed at a place.
abbrev pub path_at : {C : Type 0} → List (Deed C) → ℕ → List Path
path_at deeds n = paths_for Failed (slice_get deeds n)

-- Something could not be written, whatever its path.
abbrev pub IsAnyWriteFault : Fault → Type 0
IsAnyWriteFault (CannotWrite path) = Unit {0}
IsAnyWriteFault (Crowded path) = Unit {0}
IsAnyWriteFault (Changed path) = Unit {0}
IsAnyWriteFault fault = ⊥

-- The contents of this deed could not be written, or something else was found at its path.
abbrev pub IsUnprepared : {C : Type 0} → Option (Deed C) → Fault → Type 0
IsUnprepared None fault = ⊥
IsUnprepared (Some deed) (CannotWrite path) = string_bytes path ≡ path_of deed
IsUnprepared (Some deed) (Changed path) = string_bytes path ≡ path_of deed
IsUnprepared (Some deed) (Irregular path) = string_bytes path ≡ path_of deed
IsUnprepared (Some deed) fault = ⊥

-- The first of these prepared deeds could not be done: the contents were not moved, and are at the temporary path as those of the others are, or
-- the file was not removed.
abbrev pub IsUncommitted : {C : Type 0} → List (Deed C) → Failure → Type 0
IsUncommitted (Put path temporary before contents ∷ deeds) (AtFault (CannotMove p t left)) =
    (p ≡ path) × (t ≡ temporary) × (map string_bytes left.items ≡ temporaries deeds)
IsUncommitted (Remove path before ∷ deeds) (AtFault (CannotWrite p)) = p ≡ path
IsUncommitted deeds failure = ⊥
