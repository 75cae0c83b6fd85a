-- The flag byte, and the flags that a result sets. [8080 manual 1975, chapter 4, flags]
use Rattle.std.specs.Prelude.{◌==◌, ◌+◌, ◌*◌, ◌/◌, ◌%◌, nat_le, ℕ, Bool, true, false, count_ones}
use Rattle.i8080.specs.declared.flags.Flags.{Flags}

abbrev pub bit : Bool → ℕ
bit true = 1
bit false = 0

-- The flag byte: S Z 0 AC 0 P 1 CY, from bit 7 down.
abbrev pub byte_of : Flags → ℕ
byte_of f = 128 * bit f.s + 64 * bit f.z + 16 * bit f.ac + 4 * bit f.p + 2 + bit f.cy

abbrev pub flags_in : ℕ → Flags
flags_in byte = record {
  s = byte / 128 % 2 == 1;
  z = byte / 64 % 2 == 1;
  ac = byte / 16 % 2 == 1;
  p = byte / 4 % 2 == 1;
  cy = byte % 2 == 1;
}

-- The flags for a result and two given carries: the sign is bit 7 of the result, zero is set for a result of 0, and parity is
-- set for an even number of ones.
abbrev pub flags_after : ℕ → Bool → Bool → Flags
flags_after value ac cy = record {
  s = nat_le 128 value;
  z = value == 0;
  ac = ac;
  p = count_ones value % 2 == 0;
  cy = cy;
}
