-- Names of files in the folder of a drive.
use Rattle.std.proofs.Common.{◌≡◌, ℕ, Bool, true, false, cond, ◌&&◌, ◌||◌, List, [], ◌∷◌, length, drop, nat_lt, slice_index, Option, Some, None, is_some, refl, ap, sym, ◌∙◌}
use Rattle.std.specs.Prelude.{Result, Ok, Err, slice_set, ◌==◌}
use Rattle.std.specs.List.{before_first, after_first, list_any}
use Rattle.filenames.specs.Names.{Key, is_colon, is_dot, is_valid, key_of, key_or_refusal, name_on_drive, drive_of, name_without_drive, has_drive, name_of}
use Rattle.folders.specs.FolderNames.{key_in, ok_or_none}

-- A name without a `:` names no drive.
no_letter : (file : List ℕ) → list_any is_colon file ≡ false → has_drive file ≡ false
no_letter [] h = refl
no_letter (b ∷ []) h = refl
no_letter (b ∷ c ∷ bs) h = neither (nat_lt 1 (length (b ∷ c ∷ bs))) (is_colon c) (second (is_colon b) (is_colon c) (list_any is_colon bs) h)
  where
    neither : (x y : Bool) → y ≡ false → (x && y) ≡ false
    neither true y e = e
    neither false y e = refl

    second : (x y z : Bool) → (x || (y || z)) ≡ false → y ≡ false
    second true y z e = cc
    second false true z e = cc
    second false false z e = refl

-- The key of a result, put on a drive.
abbrev put_on : ℕ → Result Key ℕ → Result Key ℕ
put_on drive (Ok key) = Ok (slice_set key 0 drive)
put_on drive (Err n) = Err n

by_tests : (a b c : Bool) (drive : ℕ) (key other : Key) → slice_set key 0 drive ≡ other
    → cond a (Err 1) (cond b (Err 2) (cond c (Ok other) (Err 3))) ≡ put_on drive (cond a (Err 1) (cond b (Err 2) (cond c (Ok key) (Err 3))))
by_tests true b c drive key other e = refl
by_tests false true c drive key other e = refl
by_tests false false true drive key other e = ap Ok (sym e)
by_tests false false false drive key other e = refl

-- A name on a drive is the same name on drive A, put on that drive.
named_on : (drive : ℕ) (name kind : List ℕ) → key_or_refusal drive name kind ≡ put_on drive (key_or_refusal 0 name kind)
unfolding key_or_refusal
named_on drive name kind = by_tests (length name == 0) (nat_lt 8 (length name) || nat_lt 3 (length kind)) (is_valid name && is_valid kind) drive (key_of 0 name kind) (key_of drive name kind) refl

some_on : (b : Bool) (drive : ℕ) (plain named : Result Key ℕ) → named ≡ put_on drive plain → is_some (cond b None (ok_or_none named)) ≡ is_some (cond b None (ok_or_none plain))
some_on true drive plain named e = refl
some_on false drive (Ok key) named e = ap (λ r. is_some (ok_or_none r)) e
some_on false drive (Err n) named e = ap (λ r. is_some (ok_or_none r)) e

-- A name is valid on each drive or on none.
pub valid_on : (drive : ℕ) (file : List ℕ) → is_some (key_in drive file) ≡ is_some (key_in 0 file)
valid_on drive file = some_on (list_any is_colon file) drive _ _ (named_on drive (before_first is_dot file) (after_first is_dot file))

plain_of : (file : List ℕ) → list_any is_colon file ≡ false → name_of file ≡ name_without_drive 0 file
unfolding name_of
plain_of file h = ap (λ b. cond b (name_on_drive (drive_of (slice_index file 0)) (drop 2 file)) (name_without_drive 0 file)) (no_letter file h)

key_by : (file : List ℕ) (drive : ℕ) → list_any is_colon file ≡ false → key_in drive file ≡ ok_or_none (put_on drive (name_of file))
key_by file drive h = rw (h, plain_of file h) (ap ok_or_none (named_on drive (before_first is_dot file) (after_first is_dot file)))

-- If a file's name is valid on drive A, the file has that key, put on its drive.
pub said_key : (file : List ℕ) (drive : ℕ) (key : Key) → list_any is_colon file ≡ false → name_of file ≡ Ok key → key_in drive file ≡ Some (slice_set key 0 drive)
said_key file drive key h e = key_by file drive h ∙ ap (λ r. ok_or_none (put_on drive r)) e

-- If a file's name is not valid, the file has no key.
pub refused_key : (file : List ℕ) (drive n : ℕ) → list_any is_colon file ≡ false → name_of file ≡ Err n → key_in drive file ≡ None
refused_key file drive n h e = key_by file drive h ∙ ap (λ r. ok_or_none (put_on drive r)) e

either_none : (b : Bool) (r : Option Key) → r ≡ None → cond b None r ≡ None
either_none true r e = refl
either_none false r e = e

nameless : (drive : ℕ) (kind : List ℕ) → ok_or_none (key_or_refusal drive [] kind) ≡ None
unfolding key_or_refusal
nameless drive kind = refl

-- A name that begins with a `.` (46) belongs to no host file.
pub dotted_key : (file : List ℕ) (drive : ℕ) → key_in drive (46 ∷ file) ≡ None
dotted_key file drive = either_none (list_any is_colon (46 ∷ file)) (ok_or_none (name_without_drive drive (46 ∷ file))) (nameless drive (after_first is_dot (46 ∷ file)))

drive_by : (a b c : Bool) (drive : ℕ) (rest key : List ℕ) → ok_or_none (cond a (Err 1) (cond b (Err 2) (cond c (Ok (drive ∷ rest)) (Err 3)))) ≡ Some key → slice_index key 0 ≡ drive
drive_by true b c drive rest key e = cc
drive_by false true c drive rest key e = cc
drive_by false false false drive rest key e = cc
drive_by false false true drive rest key e = let same : drive ∷ rest ≡ key = cc in ap (λ k. slice_index k 0) (sym same)

named_drive : (drive : ℕ) (name kind : List ℕ) (key : Key) → ok_or_none (key_or_refusal drive name kind) ≡ Some key → slice_index key 0 ≡ drive
unfolding key_or_refusal
named_drive drive name kind key e = drive_by (length name == 0) (nat_lt 8 (length name) || nat_lt 3 (length kind)) (is_valid name && is_valid kind) drive _ key e

some_named : (b : Bool) (r : Option Key) (key : Key) → cond b None r ≡ Some key → r ≡ Some key
some_named true r key e = cc
some_named false r key e = e

-- The key of a file in the folder of a drive is on that drive.
pub drive_in : (drive : ℕ) (file : List ℕ) (key : Key) → key_in drive file ≡ Some key → slice_index key 0 ≡ drive
drive_in drive file key e = named_drive drive _ _ key (some_named (list_any is_colon file) (ok_or_none (name_without_drive drive file)) key e)
