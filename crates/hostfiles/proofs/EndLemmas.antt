-- No file has a record past its end.
use Rattle.std.proofs.Common.{◌≡◌, ℕ, zero, suc, ◌+◌, ◌-◌, ◌≤◌, Bool, true, false, cond, eqb, nat_lt, List, [], length, Some, None, refl, sym, ap, subst, ◌∙◌, arith, inl, inr}
use Rattle.std.proofs.lemmas.Bool.{cases_lt}
use Rattle.std.proofs.lemmas.Bool.Decides.{eqb_tells}
use Rattle.std.proofs.lemmas.Option.{slice_get_past}
use Rattle.std.specs.Ordering.{nat_cmp}
use Rattle.std.specs.FinMap.{get, insert, empty, get-empty}
use Rattle.records.specs.Records.{RecordMap, zeros, zeros_at}
use Rattle.records.proofs.KeptLemmas.{get_insert}
use Rattle.hostfiles.specs.Hosts.{Key, Record, Host}
use Rattle.hostfiles.specs.Files.{OwnFiles, written_or_host_record, is_host_part, length_by, base_records, host_records, record_or_hole, length_of, length_at, untouched_entry, new_entry, gone_entry, entry_at, after_make, after_delete, renamed_from, after_rename, growth_after, records_with_gap, entry_after_write, after_write}
use Rattle.hostfiles.specs.Laid.{HasNoRecordPastEnd}
use Rattle.hostfiles.specs.declared.journal.Entry.{Entry}
use Rattle.hostfiles.specs.declared.journal.Gap.{Gap}
use Rattle.hostfiles.specs.declared.journal.Gap.TheVariants.{Holes, Zeros}
use Rattle.hostfiles.proofs.LaidLemmas.{below, not_below, stands_moved}
use Rattle.hostfiles.proofs.JournalLemmas.{each_untouched, each_with}
use Rattle.hostfiles.proofs.WriteLemmas.{grown_kept, length_wrote, longer}

abbrev EntryEnds : Host → Key → Entry → Type 0
EntryEnds host q e = (p : ℕ) → length_of host q e ≤ p → record_or_hole host q e p ≡ None

unwritten : (u : List Record) (p : ℕ) (b : Bool) → length u ≤ p → written_or_host_record u p None b ≡ None
unwritten u p true h = slice_get_past u p h
unwritten u p false h = refl

nowhere : (u : List Record) (p : ℕ) (b : Bool) → length u ≤ p → written_or_host_record u p (get {R = nat_cmp} empty p) b ≡ None
nowhere u p b h = ap (λ o. written_or_host_record u p o b) (get-empty nat_cmp p) ∙ unwritten u p b h

untouched_ends : (host : Host) (q : Key) → EntryEnds host q untouched_entry
untouched_ends host q p h = nowhere (host_records host (Some q)) p true h

fresh_ends : (host : Host) (q : Key) → EntryEnds host q new_entry
fresh_ends host q p h = nowhere [] p (nat_lt p 0) h

nothing_ends : (host : Host) (q : Key) → EntryEnds host q gone_entry
nothing_ends host q p h = nowhere [] p true h

apart_at : (p k : ℕ) → k + 1 ≤ p → eqb p k ≡ false
apart_at p k h = elim (eqb_tells p k) [ inl same ↦ absurd (let e : p ≡ k = same.1 in omega arith) | inr other ↦ other.0 ]

zeros_past : (m : RecordMap) (from c p : ℕ) → from + c ≤ p → get (zeros_at m from c) p ≡ get m p
unfolding zeros_at
zeros_past m from zero p h = refl
zeros_past m from (suc c) p h =
    get_insert (zeros_at m from c) (from + c) zeros p ∙ ap (λ b. cond b (Some zeros) (get (zeros_at m from c) p)) (apart_at p (from + c) (omega arith)) ∙ zeros_past m from c p (omega arith)

gap_past : (gap : Gap) (n k : ℕ) (m : RecordMap) (p : ℕ) → k ≤ p → get (records_with_gap gap n k m) p ≡ get m p
gap_past Holes n k m p h = refl
gap_past Zeros n k m p h = elim (cases_lt n k) [
  | inl l ↦ ap (λ b. get (cond b (zeros_at m n (k - n)) m) p) (below n k l) ∙ zeros_past m n (k - n) p (omega arith)
  | inr l ↦ ap (λ b. get (cond b (zeros_at m n (k - n)) m) p) (not_below n k l)
]

wrote_ends : (host : Host) (key : Key) (e : Entry) (gap : Gap) (k : ℕ) (r : Record) → EntryEnds host key e → EntryEnds host key (entry_after_write gap (length_of host key e) k r e)
wrote_ends host key e gap k r h p l =
    let n = length_of host key e in
    let m = records_with_gap gap n k e.records in
    let size : length_of host key (entry_after_write gap n k r e) ≡ n + (k + 1 - n) = length_wrote host key e gap k r ∙ longer n k in
    let none = h p (omega arith) in
    ap (λ o. written_or_host_record (base_records host key e) p o (is_host_part p (growth_after n k e.grown)))
    (get_insert m k r p ∙ ap (λ b. cond b (Some r) (get m p)) (apart_at p k (omega arith)) ∙ gap_past gap n k e.records p (omega arith))
    ∙ grown_kept (base_records host key e) n k p (get e.records p) e.grown (λ _. none) ∙ none

moved_ends : (host : Host) (old new : Key) (e : Entry) → EntryEnds host old e → EntryEnds host new (renamed_from old e)
moved_ends host old new e h = subst (λ s. (p : ℕ) → length_by (length (host_records host s)) e.grown ≤ p → written_or_host_record (host_records host s) p (get e.records p) (is_host_part p e.grown) ≡ None) (sym (stands_moved old new e.base)) h

ends_insert : (host : Host) (own : OwnFiles) (key : Key) (e : Entry) → ((q : Key) → HasNoRecordPastEnd host own q) → EntryEnds host key e → (q : Key) → HasNoRecordPastEnd host (insert own key e) q
ends_insert host = each_with (EntryEnds host)

pub ends_start : (host : Host) (q : Key) → HasNoRecordPastEnd host empty q
ends_start host = each_untouched (EntryEnds host) (untouched_ends host)

pub ends_made : (host : Host) (own : OwnFiles) → ((q : Key) → HasNoRecordPastEnd host own q) → (key q : Key) → HasNoRecordPastEnd host (after_make own key) q
ends_made host own all key = ends_insert host own key new_entry all (fresh_ends host key)

pub ends_deleted : (host : Host) (own : OwnFiles) → ((q : Key) → HasNoRecordPastEnd host own q) → (key q : Key) → HasNoRecordPastEnd host (after_delete own key) q
ends_deleted host own all key = ends_insert host own key gone_entry all (nothing_ends host key)

pub ends_wrote : (host : Host) (own : OwnFiles) → ((q : Key) → HasNoRecordPastEnd host own q) → (gap : Gap) (key : Key) (k : ℕ) (r : Record) (q : Key) → HasNoRecordPastEnd host (after_write gap (length_at host own key) own key k r) q
ends_wrote host own all gap key k r = ends_insert host own key (entry_after_write gap (length_at host own key) k r (entry_at own key)) all (wrote_ends host key (entry_at own key) gap k r (all key))

pub ends_renamed : (host : Host) (own : OwnFiles) → ((q : Key) → HasNoRecordPastEnd host own q) → (old new q : Key) → HasNoRecordPastEnd host (after_rename own old new) q
ends_renamed host own all old new = ends_insert host (after_delete own old) new (renamed_from old (entry_at own old)) (ends_deleted host own all old) (moved_ends host old new (entry_at own old) (all old))
