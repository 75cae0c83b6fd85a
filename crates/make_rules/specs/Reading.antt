-- How GNU make reads the line of a rule that has no other bytes with a meaning than these. (GNU make 4.3, read.c; its manual: 3.1 on
-- comments, 4.3 on rules, 4.4 on names and `./`, 6.1 on `$`, 4.4.3 on `wildcard`. It goes over a line several times; for such a line once is
-- the same.)
use Rattle.std.specs.Prelude.{◌≡◌, ℕ, zero, suc, ◌+◌, ◌/◌, ◌%◌, ◌==◌, ◌||◌, Bool, if◌then◌else◌, List, [], ◌∷◌, ◌++◌, map, filter, codes, bytes_eq}
use Rattle.std.specs.List.{flat_map}
use Rattle.folders.specs.FileSystem.{Path}

-- A byte as make takes it: a byte of a name, or a mark: a blank, which ends a name, `:`, which ends the targets, or `#`, which begins a comment.
pub data Sign : Type 0 where
  Named : ℕ → Sign
  Mark : ℕ → Sign

abbrev pub is_mark : ℕ → Bool
is_mark b = b == 32 || b == 35 || b == 58

-- n backslashes, and what comes after them.
abbrev pub slashed : ℕ → List Sign → List Sign
slashed zero s = s
slashed (suc n) s = Named 92 ∷ slashed n s

-- A byte that may be a mark, after n backslashes: each two of them are one, and after an odd number it is a byte of a name.
abbrev pub marked : ℕ → ℕ → List Sign → List Sign
marked n b s = slashed (n / 2) ((if n % 2 == 0 then Mark b else Named b) ∷ s)

-- ---- the names between blanks

-- A name before other names, if it is not empty.
abbrev pub with_name : Path → List Path → List Path
with_name [] names = names
with_name (b ∷ bs) names = (b ∷ bs) ∷ names

-- The names in signs, of which the first begins with the bytes of `name`.
abbrev pub names : Path → List Sign → List Path
names name [] = with_name name []
names name (Named b ∷ s) = names (name ++ b ∷ []) s
names name (Mark b ∷ s) = with_name name (names [] s)

-- ---- calls

-- The bytes of names, each after a blank; and the same without the first blank.
abbrev pub after_blanks : List Path → List Sign
after_blanks paths = flat_map (λ path. Mark 32 ∷ map Named path) paths

abbrev pub between_blanks : List Path → List Sign
between_blanks [] = []
between_blanks (path ∷ paths) = map Named path ++ after_blanks paths

-- The value of a call: for `wildcard`, the names of the files that exist.
abbrev pub value_of : (Path → Bool) → List Path → List Sign
value_of exists [] = []
value_of exists (function ∷ paths) = if bytes_eq function (codes "wildcard") then between_blanks (filter exists paths) else []

-- ---- a line

-- What a byte of a line follows: n backslashes; a `$` after n backslashes; the signs of a call so far, or these and a `$`.
pub data Place : Type 0 where
  Backslashes : ℕ → Place
  Dollar : ℕ → Place
  Call : List Sign → Place
  DollarInCall : List Sign → Place

-- The signs of a line from such a place on, if these files exist. `$$` is `$`, and another variable is empty.
abbrev pub signs : (Path → Bool) → Place → List ℕ → List Sign
signs exists (Backslashes n) [] = slashed n []
signs exists (Dollar n) [] = slashed n []
signs exists (Call call) [] = []
signs exists (DollarInCall call) [] = []
signs exists (Backslashes n) (b ∷ bs) =
    if b == 92 then signs exists (Backslashes (n + 1)) bs
    else if b == 36 then signs exists (Dollar n) bs
    else if is_mark b then marked n b (signs exists (Backslashes 0) bs)
    else slashed n (Named b ∷ signs exists (Backslashes 0) bs)
signs exists (Dollar n) (b ∷ bs) =
    if b == 36 then slashed n (Named 36 ∷ signs exists (Backslashes 0) bs)
    else if b == 40 then slashed n (signs exists (Call []) bs)
    else slashed n (signs exists (Backslashes 0) bs)
signs exists (Call call) (b ∷ bs) =
    if b == 41 then value_of exists (names [] call) ++ signs exists (Backslashes 0) bs
    else if b == 36 then signs exists (DollarInCall call) bs
    else if b == 32 then signs exists (Call (call ++ Mark 32 ∷ [])) bs
    else signs exists (Call (call ++ Named b ∷ [])) bs
signs exists (DollarInCall call) (b ∷ bs) = if b == 36 then signs exists (Call (call ++ Named 36 ∷ [])) bs else signs exists (Call call) bs

-- The signs before the first mark m, and after it.
abbrev pub before : ℕ → List Sign → List Sign
before m [] = []
before m (Named b ∷ s) = Named b ∷ before m s
before m (Mark b ∷ s) = if b == m then [] else Mark b ∷ before m s

abbrev pub after : ℕ → List Sign → List Sign
after m [] = []
after m (Named b ∷ s) = after m s
after m (Mark b ∷ s) = if b == m then s else after m s

-- The signs of a line before its comment.
abbrev pub signs_of : (Path → Bool) → List ℕ → List Sign
signs_of exists line = before 35 (signs exists (Backslashes 0) line)

-- If these files exist, make takes a line as a rule for these targets with these prerequisites. Each of them is the file that `as_read` says.
pub record ReadsRule (exists : Path → Bool) (line : List ℕ) (targets prerequisites : List Path) : Type 0 where
  pub targets_are : names [] (before 58 (signs_of exists line)) ≡ targets
  pub prerequisites_are : names [] (after 58 (signs_of exists line)) ≡ prerequisites
