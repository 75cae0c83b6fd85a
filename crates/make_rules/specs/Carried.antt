-- The paths that a rule can have. (GNU make 4.3: no escape keeps the others from another meaning, as a target or as a prerequisite.)
use Rattle.std.specs.Prelude.{ℕ, ◌-◌, ◌==◌, ◌&&◌, ◌||◌, not, Bool, true, false, if◌then◌else◌, codes, nat_le, nat_lt, List, [], ◌∷◌, slice_get, length}
use Rattle.std.specs.List.{list_all, list_any}
use Rattle.std.specs.Option.{option_map_or}
use Rattle.std.specs.Char.{is_ascii_uppercase}
use Rattle.folders.specs.FileSystem.{Path}

-- A byte with a meaning that no backslash takes from it in each place of a rule: a line end or another white space than a blank, `%` of a
-- pattern, `*`, `?` and `[` of a wildcard, `:`, `;`, `=` and `|`.
abbrev pub has_meaning : ℕ → Bool
has_meaning b = (nat_le 9 b && nat_le b 13) || b == 37 || b == 42 || b == 58 || b == 59 || b == 61 || b == 63 || b == 91 || b == 124

-- A byte that a path cannot end with: a blank and `\` at the end of a line, `&` before `:`, and `)`, as of a member of an archive.
abbrev pub has_meaning_last : ℕ → Bool
has_meaning_last b = b == 32 || b == 38 || b == 41 || b == 92

-- The first byte is a `/`, and others come after it.
abbrev pub has_slash : List ℕ → Bool
has_slash (b ∷ c ∷ bs) = b == 47
has_slash bytes = false

-- A path or, after a `./`, the rest of it, as make reads it: without each leading `./` and the slashes after it; if nothing else is left,
-- it is `./`.
abbrev pub rest_read : Bool → Path → Path
rest_read true [] = codes "./"
rest_read false [] = []
rest_read after (b ∷ bs) = if (after && b == 47) || (b == 46 && has_slash bs) then rest_read true bs else b ∷ bs

-- A path as make reads it.
abbrev pub as_read : Path → Path
as_read path = rest_read false path

-- The first byte is `~`, as of a home folder.
abbrev pub has_home : List ℕ → Bool
has_home [] = false
has_home (b ∷ bs) = b == 126

abbrev pub is_capital : ℕ → Bool
is_capital b = is_ascii_uppercase b || b == 95

-- A `.` and then capitals, as the names of make's own targets: `.PHONY`.
abbrev pub is_own_target : Path → Bool
is_own_target [] = false
is_own_target (b ∷ []) = false
is_own_target (b ∷ c ∷ bs) = b == 46 && list_all is_capital (c ∷ bs)

-- A path ends with a byte that none can end with.
abbrev pub ends_with_meaning : Path → Bool
ends_with_meaning path = option_map_or has_meaning_last (slice_get path (length path - 1)) false

-- Whether a rule can have a path.
unfoldable pub is_carried : Path → Bool
is_carried path =
    nat_lt 0 (length path)
    && (not (list_any has_meaning path) && (not (ends_with_meaning path) && (not (has_home (as_read path)) && not (is_own_target (as_read path)))))

-- A byte that a path within a call of a function of make cannot have: a blank, `#`, a parenthesis, a comma or `\`.
abbrev pub has_meaning_in_call : ℕ → Bool
has_meaning_in_call b = b == 32 || b == 35 || b == 40 || b == 41 || b == 44 || b == 92

-- Whether a call can have a path.
abbrev pub fits_call : Path → Bool
fits_call path = not (list_any has_meaning_in_call path)
