-- The law of carrying out a plan. (This project's own.)
use Rattle.std.specs.Prelude.{ℕ, ◌⊎◌, List, [], ◌∷◌, Option, Some, None, Result, Ok, Err, drop, slice_get, take}
use Rattle.folders.specs.Faults.{FailsBy}
use Rattle.folders.specs.FileSystem.{AddsOnly, Becomes, FileBytes}
use Rattle.folders.specs.declared.fault.Failure.{Failure}
use Rattle.plan.specs.Faults.{IsUncommitted, IsUnprepared}
use Rattle.plan.specs.Plans.{AreAsExpected, AreFreeIn, all_done, files_at, temporaries, temporary_of, with_prepared}
use Rattle.plan.specs.declared.deed.Deed.{Deed}

module _ {C : Type 0} (bytes : C → List ℕ) where
  -- Nothing was done: at most temporary files are left, where nothing was.
  abbrev pub DoesNothing : List (Deed C) → Option FileBytes → Option FileBytes → Failure → Type 0
  DoesNothing deeds before after f = AddsOnly (temporaries deeds) before after × FailsBy (λ fault. (n : ℕ) × IsUnprepared (slice_get deeds n) fault) f

  -- A deed could not be done: the ones before it are done, and the contents of it and the others are at their temporary paths, where nothing
  -- was.
  abbrev pub DoesFirst : List (Deed C) → Option FileBytes → Option FileBytes → Failure → Type 0
  DoesFirst deeds before after f = (n : ℕ) × Becomes before after (files_at bytes deeds n) × AreFreeIn bytes deeds before × IsUncommitted (drop n deeds) f

  -- All was as expected, and all is done; or for a failure nothing, or a first part.
  abbrev pub Carries : List (Deed C) → Option FileBytes → Option FileBytes → Result (Unit {0}) Failure → Type 0
  Carries deeds before after (Ok u) = AreAsExpected before deeds × Becomes before after (all_done bytes deeds)
  Carries deeds before after (Err f) =
      DoesNothing deeds before after f ⊎ (AreAsExpected before deeds × DoesFirst deeds before after f)

  -- This deed could not be done alone: nothing was done, or what it puts is at its temporary path, where nothing was.
  abbrev pub FailsOne : Option (Deed C) → Option FileBytes → Option FileBytes → Failure → Type 0
  FailsOne None before after f = ⊥
  FailsOne (Some deed) before after f =
      (AddsOnly (temporary_of deed) before after × FailsBy (IsUnprepared (Some deed)) f)
      ⊎ (Becomes before after (with_prepared bytes deed) × IsUncommitted (deed ∷ []) f)

  -- The deeds are done one after another: all are done; or for a failure the first n, and the next one could not be done alone.
  abbrev pub CarriesEach : List (Deed C) → Option FileBytes → Option FileBytes → Result (Unit {0}) Failure → Type 0
  CarriesEach deeds before after (Ok u) = Becomes before after (all_done bytes deeds)
  CarriesEach deeds before after (Err f) =
      (n : ℕ) × (middle : Option FileBytes) × Becomes before middle (all_done bytes (take n deeds)) × FailsOne (slice_get deeds n) middle after f
