-- File control blocks: where names and record numbers are. ([Interface Guide 1979, file control blocks]; that s2 counts 4,096
-- records: this project's profile.)
use Rattle.std.specs.Prelude.{ℕ, ◌+◌, ◌*◌, ◌/◌, ◌%◌, List, take, drop, slice_index, slice_set}

-- The eleven bytes of name and type from an index on.
abbrev pub name_at : List ℕ → ℕ → List ℕ
name_at fcb at = take 11 (drop at fcb)

-- The sequential record number, by s2, ex and cr.
abbrev pub place_of : List ℕ → ℕ
place_of fcb = 4096 * slice_index fcb 14 + 128 * slice_index fcb 12 + slice_index fcb 32

abbrev pub with_place : List ℕ → ℕ → List ℕ
with_place fcb place = slice_set (slice_set (slice_set fcb 12 (place / 128 % 32)) 14 (place / 4096)) 32 (place % 128)

-- The random record number, by r0 and r1.
abbrev pub random_place_of : List ℕ → ℕ
random_place_of fcb = slice_index fcb 33 + 256 * slice_index fcb 34
