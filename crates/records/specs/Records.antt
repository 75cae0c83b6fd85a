-- Records, and records by number. ([Interface Guide 1979, operating system call conventions]: a file has at most 65,536
-- records.)
use Rattle.std.specs.Prelude.{ℕ, zero, suc, ◌+◌, List, replicate}
use Rattle.std.specs.FinMap as finmap
use Rattle.std.specs.Ordering.{nat_cmp}

-- The bytes of a record.
abbrev pub Record : Type 0
Record = List ℕ

-- Records by number.
abbrev pub RecordMap : Type 0
RecordMap = finmap.FinMap nat_cmp Record

-- A record of zeros.
abbrev pub zeros : Record
zeros = replicate 128 0

-- These records with records of zeros at n numbers, starting at `from`.
unfoldable pub zeros_at : RecordMap → ℕ → ℕ → RecordMap
zeros_at m from zero = m
zeros_at m from (suc n) = finmap.insert (zeros_at m from n) (from + n) zeros
