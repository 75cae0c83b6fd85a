-- What a run did stays sound.
use Rattle.std.proofs.Common.{◌≡◌, ℕ, ◌+◌, ◌≤◌, Bool, true, false, cond, List, [], ◌∷◌, length, Option, Some, None, nat_lt, unwrap_or, slice_index, refl, sym, ap, subst, ◌∙◌, arith}
use Rattle.std.specs.Ordering.{nat_cmp, eq_by_cmp}
use Rattle.std.specs.Cmp.Lexicographic.{slice_cmp, nat_list_cmp_total}
use Rattle.std.specs.FinMap.{get, insert, empty, get-empty, get-insert}
use Rattle.hostfiles.proofs.Views.{same_key, key_of}
use Rattle.hostfiles.specs.Hosts.{Key, Record, Host}
use Rattle.hostfiles.specs.Files.{OwnFiles, entry_at, untouched_entry, new_entry, gone_entry, renamed_from, base_records, host_records, length_by, length_of, host_end_after_growth, growth_after, entry_after_write, after_delete}
use Rattle.hostfiles.specs.declared.journal.Gap.{Gap}
use Rattle.hostfiles.specs.declared.journal.Growth.{Growth}
use Rattle.hostfiles.specs.declared.journal.Entry.{Entry}
use Rattle.hostfiles.proofs.JournalLemmas.{each_untouched, each_with}
use Rattle.hostfiles.proofs.LaidLemmas.{stands_moved}
use Rattle.file_calls.specs.Changes.{FileChange, Unchanged, Made, Deleted, Renamed, Stored}
use Rattle.file_calls.specs.Deletes.{own_after_change}
use Rattle.file_calls.specs.Deletes.{own_without}
use Rattle.file_calls.specs.HostTrees.{IsSoundEntry, AreSoundOwnFiles, IsFitting, host_end_of}

same_some : (a b : Key) → Some a ≡ Some b → a ≡ b
same_some a b e = ap (λ o. unwrap_or o a) e

untouched_sound : (host : Host) (q : Key) → IsSoundEntry host q untouched_entry
untouched_sound host q = record { grown = omega arith; drive = λ old e. ap (λ (k : Key). slice_index k 0) (sym (same_some q old e)) }

fresh_sound : (host : Host) (q : Key) → IsSoundEntry host q new_entry
fresh_sound host q = record { grown = omega arith; drive = λ old e. cc }

nothing_sound : (host : Host) (q : Key) → IsSoundEntry host q gone_entry
nothing_sound host q = record { grown = omega arith; drive = λ old e. cc }

moved_sound : (host : Host) (old new : Key) (e : Entry) → slice_index old 0 ≡ slice_index new 0 → IsSoundEntry host old e → IsSoundEntry host new (renamed_from old e)
moved_sound host old new e same s = record {
  grown = subst (λ o. host_end_of e.grown ≤ length (host_records host o)) (sym (stands_moved old new e.base)) s.grown;
  drive = λ x is. s.drive x (sym (stands_moved old new e.base) ∙ is) ∙ same;
}

-- The number from which on no record is the host file's, after a write.
grown_from : (u n k : ℕ) (g : Option Growth) → n ≡ length_by u g → host_end_of g ≤ u → host_end_of (growth_after n k g) ≤ u
grown_from u n k g e h = elim (nat_lt k n) as (λ b. host_end_of (cond b g (Some (record { host_end = host_end_after_growth n g; length = k + 1 }))) ≤ u) [ true ↦ h | false ↦ limit g e h ] where
  limit : (g : Option Growth) → n ≡ length_by u g → host_end_of g ≤ u → host_end_after_growth n g ≤ u
  limit None e h = omega arith
  limit (Some g) e h = h

wrote_sound : (host : Host) (q : Key) (gap : Gap) (n k : ℕ) (r : Record) (e : Entry) → n ≡ length_of host q e → IsSoundEntry host q e → IsSoundEntry host q (entry_after_write gap n k r e)
wrote_sound host q gap n k r e same s = record { grown = grown_from (length (base_records host q e)) n k e.grown same s.grown; drive = s.drive }

-- One more entry.
insert_sound : (host : Host) (own : OwnFiles) → AreSoundOwnFiles host own → (key : Key) (e : Entry) → IsSoundEntry host key e → AreSoundOwnFiles host (insert own key e)
insert_sound host own sound key e here = record { at = each_with (IsSoundEntry host) own key e sound.at here }

pub starts_sound : (host : Host) → AreSoundOwnFiles host empty
starts_sound host = record { at = each_untouched (IsSoundEntry host) (untouched_sound host) }

without_sound : (host : Host) (own : OwnFiles) (keys : List Key) → AreSoundOwnFiles host own → AreSoundOwnFiles host (own_without own keys)
without_sound host own [] s = s
without_sound host own (key ∷ keys) s = without_sound host (after_delete own key) keys (insert_sound host own s key gone_entry (nothing_sound host key))

pub stays_sound : (host : Host) (own : OwnFiles) (change : FileChange) → IsFitting host own change → AreSoundOwnFiles host own → AreSoundOwnFiles host (own_after_change change own)
stays_sound host own Unchanged fits s = s
stays_sound host own (Made key) fits s = insert_sound host own s key new_entry (fresh_sound host key)
stays_sound host own (Deleted keys) fits s = without_sound host own keys s
stays_sound host own (Renamed old new) fits s =
    insert_sound host (insert own old gone_entry) (insert_sound host own s old gone_entry (nothing_sound host old)) new (renamed_from old (entry_at own old)) (moved_sound host old new (entry_at own old) fits (s.at old))
stays_sound host own (Stored w r) fits s =
    insert_sound host own s w.key (entry_after_write w.gap w.length w.place r (entry_at own w.key)) (wrote_sound host w.key w.gap w.length w.place r (entry_at own w.key) fits (s.at w.key))
