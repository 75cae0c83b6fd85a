-- The keys from which and to which a file may be renamed. ([Interface Guide 1979, function 23]; which keys it refuses: this
-- project's profile.)
use Rattle.std.specs.Prelude.{Bool, ◌&&◌, ◌==◌, not, drop}
use Rattle.std.specs.List.{list_any}
use Rattle.hostfiles.specs.Names.{is_sayable}
use Rattle.hostfiles.specs.Hosts.{Key}

-- Whether there is a `?` among the bytes of a name.
abbrev pub has_wildcard : Key → Bool
has_wildcard key = list_any (λ b. b == 63) (drop 1 key)

-- Whether a file of the old key may be renamed to the new one: the old key has no `?`, and the new one is valid.
abbrev pub is_rename : Key → Key → Bool
is_rename old new = not (has_wildcard old) && is_sayable new
