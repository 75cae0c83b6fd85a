-- How the map of all files changes by the operations of a run.
use Rattle.std.proofs.Common.{◌≡◌, ℕ, ◌+◌, ◌<◌, ◌≤◌, Bool, true, false, cond, nat_lt, List, length, map, get_or, Option, Some, None, refl, sym, ap, ◌∙◌, arith, inl, inr, rules, unwrap_or}
use Rattle.std.proofs.lemmas.Bool.{cases_lt}
use Rattle.std.proofs.lemmas.List.{get_or_past}
use Rattle.std.specs.Option.{option_map, option_and_then}
use Rattle.std.proofs.lemmas.List.FromFn.{get_or-map-range_with_len, length-map-range_with_len}
use Rattle.std.specs.List.{range_with_len}
use Rattle.std.specs.Ordering.{nat_cmp, eq_by_cmp}
use Rattle.std.specs.Cmp.Lexicographic.{slice_cmp, nat_list_cmp_total}
use Rattle.std.specs.FinMap.{get, insert, remove, get-insert, same_map}
use Rattle.keymaps.proofs.Views.{same_key, key_of}
use Rattle.hostfiles.specs.Hosts.{Key, Record, Host}
use Rattle.hostfiles.specs.Files.{OwnFiles, written_or_host_record, is_host_part, length_by, host_records, base_key, is_there, record_or_hole, length_at, file_of, has, records, record_if_there, files, untouched_entry, entry_at, after_delete, renamed_from, base_renamed_from, after_rename}
use Rattle.hostfiles.specs.File.{File}
use Rattle.hostfiles.specs.declared.journal.Base.{Base}
use Rattle.hostfiles.specs.declared.journal.Base.TheVariants.{Same, Gone, New, Moved}
use Rattle.hostfiles.proofs.FileLemmas.{get-files, files-deleted}
use Rattle.hostfiles.specs.declared.journal.Entry.{Entry}

pub below : (p n : ℕ) → p < n → nat_lt p n ≡ true
below p n h = search rules

pub not_below : (p n : ℕ) → n ≤ p → nat_lt p n ≡ false
not_below p n h = search rules

-- ---- the map of all files

-- The file with a key and this entry.
abbrev pub entry_file : Host → Key → Option Entry → Option File
entry_file host q x = cond (is_there host q (unwrap_or x untouched_entry).base) (Some (file_of host q (unwrap_or x untouched_entry))) None

pub some_cond : (b : Bool) (x f : File) → cond b (Some x) None ≡ Some f → (b ≡ true) × (x ≡ f)
some_cond true x f h = (refl, (let inner : Some x ≡ Some f = h in cc))
some_cond false x f h = cc

-- Another entry at one key.
pub files-insert : (host : Host) (own : OwnFiles) (key : Key) (e : Entry) (f : File) → entry_file host key (Some e) ≡ Some f → files host (insert own key e) ≡ insert (files host own) key f
files-insert host own key e f h = same_map nat_list_cmp_total same_key _ _ (λ q.
    get-files host (insert own key e) q
    ∙ ap (entry_file host q) (get-insert nat_list_cmp_total own key e q)
    ∙ elim (eq_by_cmp (slice_cmp nat_cmp) q key) as (λ b. eq_by_cmp (slice_cmp nat_cmp) q key ≡ b → entry_file host q (cond b (Some e) (get own q)) ≡ cond b (Some f) (entry_file host q (get own q))) [
      | true ↦ λ b. ap (λ x. entry_file host x (Some e)) (key_of same_key q key b) ∙ h
      | false ↦ λ b. refl
    ] refl
    ∙ ap (cond (eq_by_cmp (slice_cmp nat_cmp) q key) (Some f)) (sym (get-files host own q))
    ∙ sym (get-insert nat_list_cmp_total (files host own) key f q))

pub stands_moved : (old new : Key) (b : Base) → base_key new (base_renamed_from old b) ≡ base_key old b
stands_moved old new Same = refl
stands_moved old new Gone = refl
stands_moved old new New = refl
stands_moved old new (Moved x) = refl

pub there_moved : (host : Host) (old new : Key) (b : Base) → is_there host old b ≡ true → is_there host new (base_renamed_from old b) ≡ true
there_moved host old new Same h = refl
there_moved host old new Gone h = h
there_moved host old new New h = refl
there_moved host old new (Moved x) h = refl

unfoldable file_over : List Record → Entry → File
file_over u e = map (λ k. written_or_host_record u k (get e.records k) (is_host_part k e.grown)) (range_with_len 0 (length_by (length u) e.grown))

-- A renamed file still comes from its host file.
file_moved : (host : Host) (old new : Key) (e : Entry) → file_of host new (renamed_from old e) ≡ file_of host old e
unfolding file_over
file_moved host old new e = ap (λ s. file_over (host_records host s) e) (stands_moved old new e.base)

pub files-renamed : (host : Host) (own : OwnFiles) (old new : Key) (f : File) → get (files host own) old ≡ Some f → files host (after_rename own old new) ≡ insert (remove (files host own) old) new f
files-renamed host own old new f h =
    let e = entry_at own old in
    let there = some_cond (is_there host old e.base) (file_of host old e) f (sym (get-files host own old) ∙ h) in
    files-insert host (after_delete own old) new (renamed_from old e) f
    (ap (λ b. cond b (Some (file_of host new (renamed_from old e))) None) (there_moved host old new e.base there.0) ∙ ap (λ x. Some x) (file_moved host old new e ∙ there.1))
    ∙ ap (λ m. insert m new f) (files-deleted host own old)

-- ---- the contents of a file

counted_by : (b : Bool) (P : ℕ → Option Record) (N : ℕ) → cond b (Some N) None ≡ option_map length (cond b (Some (map P (range_with_len 0 N))) None)
counted_by true P N = ap (λ n. Some n) (sym (length-map-range_with_len P 0 N))
counted_by false P N = refl

pub files-counted : (host : Host) (own : OwnFiles) (key : Key) → records host own key ≡ option_map length (get (files host own) key)
files-counted host own key = counted_by (has host own key) (record_or_hole host key (entry_at own key)) (length_at host own key) ∙ ap (option_map length) (sym (get-files host own key))

read_by : (b : Bool) (P : ℕ → Option Record) (N k : ℕ) → cond b (cond (nat_lt k N) (P k) None) None ≡ option_and_then (λ f. get_or f k None) (cond b (Some (map P (range_with_len 0 N))) None)
read_by false P N k = refl
read_by true P N k = elim (cases_lt k N) [
  | inl l ↦ let at : 0 + k ≡ k = omega arith in ap (λ b. cond b (P k) None) (below k N l) ∙ sym (get_or-map-range_with_len P 0 N k k None l at)
  | inr l ↦ let short = length-map-range_with_len P 0 N in ap (λ b. cond b (P k) None) (not_below k N l) ∙ sym (get_or_past (map P (range_with_len 0 N)) k None (omega arith))
]

pub files-read : (host : Host) (own : OwnFiles) (key : Key) (k : ℕ) → record_if_there host own key k ≡ option_and_then (λ f. get_or f k None) (get (files host own) key)
files-read host own key k = read_by (has host own key) (record_or_hole host key (entry_at own key)) (length_at host own key) k ∙ ap (option_and_then (λ f. get_or f k None)) (sym (get-files host own key))
