-- No look is lost, and a call that fails has only looks of the whole call.
use Rattle.std.proofs.Common.{ℕ, Bool, true, false, cond, is_some, nat_lt, refl}
use Rattle.std.specs.FinMap.{get}
use Rattle.hostfiles.specs.Hosts.{Key, Host}
use Rattle.hostfiles.specs.Files.{OwnFiles, has, length_at, entry_at, is_host_part}
use Rattle.hostfiles.specs.FileLooks.{HasNewAsk, KeepsAsks, look_has, look_length, look_records, look_record_by, look_content, look_read, look_directory}
use Rattle.hostfiles.specs.declared.looks.FileLooks.{FileLooks}
use Rattle.hostfiles.proofs.LookLemmas as lemmas
pub use Rattle.hostfiles.proofs.LookLemmas.{extends_same, extends_trans, extends_by_has, extends_by_length, extends_by_record, extends_by_directory, new_before}

-- ---- the first looks are among all looks

pub within_has : (own : OwnFiles) (key : Key) (l m : FileLooks) → KeepsAsks l m → KeepsAsks l (look_has own key m)
within_has own key l m h =
    lemmas.extends_trans l m _ h (lemmas.extends_by_has (entry_at own key).base key m _ refl)

pub within_length : (own : OwnFiles) (key : Key) (l m : FileLooks) → KeepsAsks l m → KeepsAsks l (look_length own key m)
within_length own key l m h =
    lemmas.extends_trans l m _ h (lemmas.extends_by_length (entry_at own key).base (entry_at own key).grown key m _ refl)

pub within_content : (own : OwnFiles) (key : Key) (k : ℕ) (l m : FileLooks) → KeepsAsks l m → KeepsAsks l (look_content own key k m)
within_content own key k l m h = by_case (is_some (get (entry_at own key).records k)) (is_host_part k (entry_at own key).grown) where
  by_case : (b c : Bool) → KeepsAsks l (cond b m (cond c (look_record_by (entry_at own key).base key k m) m))
  by_case true c = h
  by_case false true = lemmas.extends_trans l m _ h (lemmas.extends_by_record (entry_at own key).base key k m _ refl)
  by_case false false = h

pub within_directory : (drive : ℕ) (l m : FileLooks) → KeepsAsks l m → KeepsAsks l (look_directory drive m)
within_directory drive l m h = lemmas.extends_trans l m _ h (lemmas.extends_by_directory drive m _ refl)

pub within_records : (host : Host) (own : OwnFiles) (key : Key) (l m : FileLooks) → KeepsAsks l (look_has own key m) → KeepsAsks l (look_records host own key m)
within_records host own key l m h = by_case (has host own key) where
  by_case : (b : Bool) → KeepsAsks l (cond b (look_length own key (look_has own key m)) (look_has own key m))
  by_case true = within_length own key l (look_has own key m) h
  by_case false = h

pub within_read : (host : Host) (own : OwnFiles) (key : Key) (k : ℕ) (l m : FileLooks) → KeepsAsks l (look_records host own key m)
    → KeepsAsks l (look_read host own key k m)
within_read host own key k l m h = by_case (has host own key) (nat_lt k (length_at host own key)) where
  by_case : (b c : Bool) → KeepsAsks l (cond b (cond c (look_content own key k (look_records host own key m)) (look_records host own key m)) (look_records host own key m))
  by_case true true = within_content own key k l (look_records host own key m) h
  by_case true false = h
  by_case false c = h

-- A rename asks about the second key after the first.
pub within_second : (own : OwnFiles) (old new : Key) (l m : FileLooks) → KeepsAsks l (look_has own old m)
    → KeepsAsks l (look_has own new (look_has own old m))
within_second own old new l m h = within_has own new l (look_has own old m) h

-- ---- a new question of the first looks is a new one of all looks

pub new_records : (host : Host) (own : OwnFiles) (key : Key) (l m : FileLooks) → HasNewAsk l (look_has own key m) → HasNewAsk l (look_records host own key m)
new_records host own key l m h = lemmas.new_within l _ _ h (within_records host own key _ m (lemmas.extends_same _ _ refl))

pub new_read : (host : Host) (own : OwnFiles) (key : Key) (k : ℕ) (l m : FileLooks) → HasNewAsk l (look_records host own key m)
    → HasNewAsk l (look_read host own key k m)
new_read host own key k l m h = lemmas.new_within l _ _ h (within_read host own key k _ m (lemmas.extends_same _ _ refl))

pub new_second : (own : OwnFiles) (old new : Key) (l m : FileLooks) → HasNewAsk l (look_has own old m) → HasNewAsk l (look_has own new (look_has own old m))
new_second own old new l m h = lemmas.new_within l _ _ h (within_second own old new _ m (lemmas.extends_same _ _ refl))

-- The rules for questions one after another.
pub ruleset asked_in_turn = (extends_same, extends_trans, within_records, within_second, new_records, new_before)
