-- The questions that a run asks the host files; its own changes answer all others. (This project's profile.)
use Rattle.std.specs.Prelude.{◌≡◌, ℕ, ◌==◌, ◌&&◌, Bool, true, false, Option, Some, None, is_some, nat_lt, if◌then◌else◌}
use Rattle.std.specs.Ordering.{nat_cmp, eq_by_cmp}
use Rattle.std.specs.Cmp.Lexicographic.{slice_cmp}
use Rattle.std.specs.FinMap.{get, insert, remove, empty, contains_key, len}
use Rattle.hostfiles.specs.Hosts.{Key, Host}
use Rattle.hostfiles.specs.Files.{OwnFiles, entry_at, has, length_at, is_host_part}
use Rattle.hostfiles.specs.declared.journal.Base.{Base}
use Rattle.hostfiles.specs.declared.journal.Base.TheVariants.{Same, Gone, New, Moved}
use Rattle.hostfiles.specs.declared.journal.Growth.{Growth}
use Rattle.hostfiles.specs.declared.looks.FileLooks.{FileLooks}
use Rattle.hostfiles.specs.declared.looks.Ask.{Ask}
use Rattle.hostfiles.specs.declared.looks.Ask.TheVariants.{Has, Length, Rec, Directory}

abbrev pub no_looks : FileLooks
no_looks = record { has = empty; lengths = empty; records = empty; directories = empty }

-- Whether a question was asked.
abbrev pub is_looked : FileLooks → Ask → Bool
is_looked l (Has key) = contains_key l.has key
is_looked l (Length key) = contains_key l.lengths key
is_looked l (Rec key k) = contains_key l.records (key, k)
is_looked l (Directory drive) = contains_key l.directories drive

-- Whether no question was asked.
abbrev pub asks_nothing : FileLooks → Bool
asks_nothing l = len l.has == 0 && len l.lengths == 0 && len l.records == 0 && len l.directories == 0

abbrev pub IsUnasked : FileLooks → Type 0
IsUnasked l = (q : Ask) → is_looked l q ≡ false

-- Whether two questions are the same.
abbrev pub is_same_ask : Ask → Ask → Bool
is_same_ask (Has key) (Has other) = eq_by_cmp (slice_cmp nat_cmp) key other
is_same_ask (Length key) (Length other) = eq_by_cmp (slice_cmp nat_cmp) key other
is_same_ask (Rec key k) (Rec other j) = eq_by_cmp (slice_cmp nat_cmp) key other && k == j
is_same_ask (Directory drive) (Directory other) = drive == other
is_same_ask ask other = false

-- The looks without a question.
abbrev pub without_ask : Ask → FileLooks → FileLooks
without_ask (Has key) l = record l { has = remove l.has key }
without_ask (Length key) l = record l { lengths = remove l.lengths key }
without_ask (Rec key k) l = record l { records = remove l.records (key, k) }
without_ask (Directory drive) l = record l { directories = remove l.directories drive }

-- ---- one question of a program, by what was done to the file: whether it is there needs no look if it was made, deleted or
-- renamed

abbrev pub look_has_by : Base → Key → FileLooks → FileLooks
look_has_by Same key l = record l { has = insert l.has key tt }
look_has_by Gone key l = l
look_has_by New key l = l
look_has_by (Moved old) key l = l

-- The length of a file that was made or made longer needs no look.
abbrev pub look_length_by : Base → Option Growth → Key → FileLooks → FileLooks
look_length_by base (Some g) key l = l
look_length_by Same None key l = record l { lengths = insert l.lengths key tt }
look_length_by Gone None key l = l
look_length_by New None key l = l
look_length_by (Moved old) None key l = record l { lengths = insert l.lengths old tt }

abbrev pub look_record_by : Base → Key → ℕ → FileLooks → FileLooks
look_record_by Same key k l = record l { records = insert l.records (key, k) tt }
look_record_by Gone key k l = l
look_record_by New key k l = l
look_record_by (Moved old) key k l = record l { records = insert l.records (old, k) tt }

-- ---- the questions of a program

-- Whether there is a file.
abbrev pub look_has : OwnFiles → Key → FileLooks → FileLooks
look_has own key l = look_has_by (entry_at own key).base key l

abbrev pub look_length : OwnFiles → Key → FileLooks → FileLooks
look_length own key l = look_length_by (entry_at own key).base (entry_at own key).grown key l

-- Whether there is a file, and its length.
abbrev pub look_records : Host → OwnFiles → Key → FileLooks → FileLooks
look_records host own key l = if has host own key then look_length own key (look_has own key l) else look_has own key l

-- The record with a number below the length. A written record, and a hole that a write past the end left, need no look.
abbrev pub look_content : OwnFiles → Key → ℕ → FileLooks → FileLooks
look_content own key k l =
    if is_some (get (entry_at own key).records k) then l
    else if is_host_part k (entry_at own key).grown then look_record_by (entry_at own key).base key k l
    else l

-- Whether there is a file, its length, and its record with this number.
abbrev pub look_read : Host → OwnFiles → Key → ℕ → FileLooks → FileLooks
look_read host own key k l =
    if has host own key
    then (if nat_lt k (length_at host own key) then look_content own key k (look_records host own key l) else look_records host own key l)
    else look_records host own key l

-- The files of a drive, which always need a look.
abbrev pub look_directory : ℕ → FileLooks → FileLooks
look_directory drive l = record l { directories = insert l.directories drive tt }

-- Each question of the first is in the second.
pub record KeepsAsks (l m : FileLooks) : Type 0 where
  pub kept : (q : Ask) → is_looked l q ≡ true → is_looked m q ≡ true

-- A question of the second is not in the first.
pub record HasNewAsk (l m : FileLooks) : Type 0 where
  pub ask : Ask
  pub asked : is_looked m ask ≡ true
  pub new : is_looked l ask ≡ false
