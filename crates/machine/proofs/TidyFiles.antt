-- Along a run no record is past the end of a file, and a file that is not there has length 0.
use Rattle.std.proofs.Common.{◌≡◌, ℕ, true, false, List, [], ◌∷◌, length, Option, Some, None, is_some, unwrap_or, refl, sym, subst}
use Rattle.std.specs.FinMap.{get, insert, empty}
use Rattle.interaction_trees.specs.Tree.{result_of}
use Rattle.interaction_trees.specs.Outcome.{Step}
use Rattle.interaction_trees.specs.Dependence as dependence
use Rattle.hostfiles.specs.Hosts.{Key, Record, Host}
use Rattle.hostfiles.specs.Files.{OwnFiles, entry_at, untouched_entry, new_entry, gone_entry, renamed_from, is_there, length_of, length_at, has, after_delete, after_write, entry_after_write}
use Rattle.hostfiles.specs.Laid.{HasNoRecordPastEnd}
use Rattle.hostfiles.specs.declared.journal.Entry.{Entry}
use Rattle.hostfiles.specs.declared.journal.Gap.{Gap}
use Rattle.hostfiles.proofs.JournalLemmas.{each_untouched, each_with}
use Rattle.hostfiles.proofs.LaidLemmas.{there_moved}
use Rattle.hostfiles.proofs.EndLemmas.{ends_start, ends_made, ends_deleted, ends_wrote, ends_renamed}
use Rattle.file_calls.specs.Changes.{FileChange, Unchanged, Made, Deleted, Renamed, Stored}
use Rattle.file_calls.specs.Deletes.{own_after_change}
use Rattle.file_calls.specs.Deletes.{own_without}
use Rattle.machine.specs.Inputs.{Session}
use Rattle.machine.specs.StateView.{PartialState}
use Rattle.machine.specs.Step.{StepEnd, Went, Stopped, next, desk_with}
use Rattle.machine.specs.Machine.{session_answers, laid, with_cells, outcome_with, start, after, outcome}
use Rattle.interaction_trees.proofs.RunLemmas.{holds_after}
use Rattle.machine.proofs.FitLemmas.{IsFit, FitsReached, reached_fits, sound_after}

-- No record is past the end of a file, and a file that is not there has length 0.
pub record IsTidy (host : Host) (own : OwnFiles) : Type 0 where
  pub ends : (q : Key) → HasNoRecordPastEnd host own q
  pub absent : (q : Key) → has host own q ≡ false → length_at host own q ≡ 0

-- ---- an entry

abbrev IsEmptyIfAbsent : Host → Key → Entry → Type 0
IsEmptyIfAbsent host q e = is_there host q e.base ≡ false → length_of host q e ≡ 0

untouched_absent : (host : Host) (q : Key) → IsEmptyIfAbsent host q untouched_entry
untouched_absent host q = by (get host q) where
  by : (o : Option (List Record)) → is_some o ≡ false → length (unwrap_or o []) ≡ 0
  by None h = refl
  by (Some f) h = absurd (cc)

-- A file that is there may have any length.
there_absent : (host : Host) (q : Key) (e : Entry) → is_there host q e.base ≡ true → IsEmptyIfAbsent host q e
there_absent host q e there h = absurd (cc)

nothing_absent : (host : Host) (q : Key) → IsEmptyIfAbsent host q gone_entry
nothing_absent host q h = refl

-- One more entry.
insert_absent : (host : Host) (own : OwnFiles) → ((q : Key) → has host own q ≡ false → length_at host own q ≡ 0) → (key : Key) (e : Entry) → IsEmptyIfAbsent host key e
    → (q : Key) → has host (insert own key e) q ≡ false → length_at host (insert own key e) q ≡ 0
insert_absent host own all key e = each_with (IsEmptyIfAbsent host) own key e all

-- ---- a change

starts_tidy : (host : Host) → IsTidy host empty
starts_tidy host = record {
  ends = ends_start host;
  absent = each_untouched (IsEmptyIfAbsent host) (untouched_absent host);
}

module _ (host : Host) where
  deleted_tidy : (own : OwnFiles) (key : Key) → IsTidy host own → IsTidy host (after_delete own key)
  deleted_tidy own key t = record { ends = ends_deleted host own t.ends key; absent = insert_absent host own t.absent key gone_entry (nothing_absent host key) }

  without_tidy : (own : OwnFiles) (keys : List Key) → IsTidy host own → IsTidy host (own_without own keys)
  without_tidy own [] t = t
  without_tidy own (key ∷ keys) t = without_tidy (after_delete own key) keys (deleted_tidy own key t)

  stored_tidy : (own : OwnFiles) (gap : Gap) (key : Key) (k : ℕ) (r : Record) → has host own key ≡ true → IsTidy host own → IsTidy host (after_write gap (length_at host own key) own key k r)
  stored_tidy own gap key k r there t = record {
    ends = ends_wrote host own t.ends gap key k r;
    absent = insert_absent host own t.absent key (entry_after_write gap (length_at host own key) k r (entry_at own key)) (there_absent host key (entry_after_write gap (length_at host own key) k r (entry_at own key)) there);
  }

  stays_tidy : (own : OwnFiles) (change : FileChange) → IsFit host own change → IsTidy host own → IsTidy host (own_after_change change own)
  stays_tidy own Unchanged fits t = t
  stays_tidy own (Made key) fits t = record { ends = ends_made host own t.ends key; absent = insert_absent host own t.absent key new_entry (there_absent host key new_entry refl) }
  stays_tidy own (Deleted keys) fits t = without_tidy own keys t
  stays_tidy own (Renamed old new) fits t = record {
    ends = ends_renamed host own t.ends old new;
    absent = insert_absent host (after_delete own old) (deleted_tidy own old t).absent new (renamed_from old (entry_at own old))
        (there_absent host new (renamed_from old (entry_at own old)) (there_moved host old new (entry_at own old).base fits.1));
  }
  stays_tidy own (Stored w r) fits t = subst (λ n. IsTidy host (after_write w.gap n own w.key w.place r)) (sym fits.0) (stored_tidy own w.gap w.key w.place r fits.1 t)

-- ---- a run

step_tidy : (s : Session) (st onward : PartialState) (e : StepEnd) → IsTidy s.files st.own.files → FitsReached s.files st.own.files e → outcome_with st e ≡ Step onward → IsTidy s.files onward.own.files
step_tidy s st onward (Went r spot bytes wrote change) tidy fits e =
    let same : record { core = record { regs = r; desk = desk_with st.core.desk spot bytes }; own = record { cells = with_cells st.own.cells wrote.cells; files = own_after_change change st.own.files } } ≡ onward = cc in
    subst (λ (x : PartialState). IsTidy s.files x.own.files) same (stays_tidy s.files st.own.files change fits tidy)
step_tidy s st onward (Stopped cause) tidy fits e = absurd (cc)

pub tidy_after : (s : Session) (n : ℕ) (st : PartialState) → after (session_answers s) n ≡ Some st → IsTidy s.files st.own.files
unfolding dependence.outcome
tidy_after s =
    holds_after (outcome (session_answers s)) start (λ (st : PartialState). IsTidy s.files st.own.files) (starts_tidy s.files)
    (λ n b st at tidy went. step_tidy s b st (result_of (laid b.own (session_answers s)) (next b.core)) tidy (reached_fits s b (sound_after s n b at)) went)
