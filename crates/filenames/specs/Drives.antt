-- The drives A to D, numbered from 0. ([Interface Guide 1979, functions 14 and 25]; that there are these four: this project's
-- profile.)
use Rattle.std.specs.Prelude.{ℕ, List, [], ◌∷◌, Option, slice_get}
use Rattle.filenames.specs.declared.drive.Drive.{Drive}
use Rattle.filenames.specs.declared.drive.Drive.TheVariants.{A, B, C, D}

abbrev pub drives : List Drive
drives = A ∷ B ∷ C ∷ D ∷ []

-- The drive with this number, if there is one.
abbrev pub drive_at : ℕ → Option Drive
drive_at number = slice_get drives number

abbrev pub drive_number : Drive → ℕ
drive_number A = 0
drive_number B = 1
drive_number C = 2
drive_number D = 3
