-- What a deed asks for, without its temporary path. (This project's own.)
use Rattle.std.specs.Prelude.{ℕ, List, Option, Some, None, string_bytes}
use Rattle.folders.specs.FileSystem.{Path}
use Rattle.hostfiles.specs.Hosts.{Record}
use Rattle.plan.specs.declared.deed.Before.{Before}
use Rattle.plan.specs.declared.deed.Before.TheVariants.{Any, Nothing, Loaded}
use Rattle.plan.specs.declared.deed.Deed.{Deed}
use Rattle.plan.specs.declared.deed.Deed.TheVariants.{Put, Remove}

-- What is expected at a path: anything, or the file from which these records were loaded, or nothing.
abbrev pub Expected : Type 0
Expected = Option (Option (List Record))

abbrev pub expected_of : Before → Expected
expected_of Any = None
expected_of Nothing = Some None
expected_of (Loaded file) = Some (Some file.now)

-- A path, what is expected there, and what is then there: these bytes, or nothing.
pub record Wanted : Type 0 where
  pub path : Path
  pub expected : Expected
  pub contents : Option (List ℕ)

abbrev pub wanted : Path → Expected → Option (List ℕ) → Wanted
wanted path expected contents = record { path = path; expected = expected; contents = contents }

abbrev pub wanted_of : {C : Type 0} → (C → List ℕ) → Deed C → Wanted
wanted_of bytes (Put path temporary before contents) = wanted (string_bytes path) (expected_of before) (Some (bytes contents))
wanted_of bytes (Remove path before) = wanted (string_bytes path) (expected_of before) None
