-- A path as a rule for GNU make has it. (This project's profile; `Reading` says how make reads it.)
use Rattle.std.specs.Prelude.{ℕ, ◌+◌, ◌==◌, ◌||◌, Bool, if◌then◌else◌, List, [], ◌∷◌, ◌++◌, replicate}
use Rattle.folders.specs.FileSystem.{Path}

-- A blank or `#`, which a path has only after a backslash.
abbrev pub is_quoted : ℕ → Bool
is_quoted b = b == 32 || b == 35

-- What comes before a byte that follows n backslashes of the path: one more backslash than these before a blank or `#`, and `$` before `$`.
abbrev pub marks : ℕ → ℕ → List ℕ
marks n b = if b == 36 then 36 ∷ [] else if is_quoted b then replicate (n + 1) 92 else []

-- The number of backslashes up to this byte.
abbrev pub backslashes : ℕ → ℕ → ℕ
backslashes n b = if b == 92 then n + 1 else 0

-- The rest of a path after n backslashes.
abbrev pub escaped_from : ℕ → Path → List ℕ
escaped_from n [] = []
escaped_from n (b ∷ bs) = marks n b ++ b ∷ escaped_from (backslashes n b) bs

abbrev pub escaped : Path → List ℕ
escaped path = escaped_from 0 path

-- A path with each `$` doubled, as a call of a function of make has it.
abbrev pub doubled : Path → List ℕ
doubled [] = []
doubled (b ∷ bs) = if b == 36 then 36 ∷ 36 ∷ doubled bs else b ∷ doubled bs

-- A path on which a target depends, after a blank.
abbrev pub prerequisite : Path → List ℕ
prerequisite path = 32 ∷ escaped path

-- A path within a call, after a blank.
abbrev pub argument : Path → List ℕ
argument path = 32 ∷ doubled path
