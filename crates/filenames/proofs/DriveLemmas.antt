-- Drives and their numbers.
use Rattle.std.proofs.Common.{◌≡◌, ◌<◌, ℕ, zero, suc, Option, Some, None, IsSome, refl, ap, lit<}
use Rattle.std.proofs.lemmas.Option.{slice_get-get_or}
use Rattle.filenames.specs.declared.drive.Drive.{Drive}
use Rattle.filenames.specs.declared.drive.Drive.TheVariants.{A, B, C, D}
use Rattle.filenames.specs.Drives.{drives, drive_at, drive_number}

pub number_below : (d : Drive) → drive_number d < 4
number_below A = lit< tt
number_below B = lit< tt
number_below C = lit< tt
number_below D = lit< tt

-- The drive at a number has this number.
pub number_at : (n : ℕ) (d : Drive) → Some d ≡ drive_at n → drive_number d ≡ n
number_at zero d e = let same : d ≡ A = cc in ap drive_number same
number_at (suc zero) d e = let same : d ≡ B = cc in ap drive_number same
number_at (suc (suc zero)) d e = let same : d ≡ C = cc in ap drive_number same
number_at (suc (suc (suc zero))) d e = let same : d ≡ D = cc in ap drive_number same
number_at (suc (suc (suc (suc n)))) d e = cc

pub is_there : (o : Option Drive) (n : ℕ) → n < 4 → o ≡ drive_at n → IsSome o
is_there (Some d) n h e = refl
is_there None n h e = let at = slice_get-get_or drives n A h in cc
