use Rattle.std.proofs.Common.{◌++◌, ◌∙◌, List, ap, inl, inr, map, refl, string_bytes}
use Rattle.std.specs.List.{list_all}
use Rattle.std.proofs.lemmas.Result.{err_from_is_err_and}
use Rattle.folders.proofs.FilesLemmas.{same_files}
use Rattle.folders.specs.declared.places.Places.{Places}
use Rattle.hostfiles.specs.Files.{files}
use Rattle.machine.specs.PlainState.{plain_run}
use Rattle.make_rules.specs.Carried.{is_carried}
use Rattle.one_run.specs.ChangedList.{Changed, changed_by}
use Rattle.requests.specs.World.{world}
use Rattle.cpmrun.specs.Reports.{put_paths}
use Rattle.cpmrun.specs.RunEnds.{ArePlaces, disks_after, exit_status, puts}
use Rattle.cpmrun.proofs.Carrying.{list_of}
use Rattle.cpmrun.proofs.Targets.{puts_carried}
use Rattle.cpmrun.proofs.word_run.finish.Goals as goal

pub returns-in_err-entries-clause-fault : goal.returns-in_err-entries-clause-fault
returns-in_err-entries-clause-fault g c =
    let w = c.args.words.now in
    let places : Places = record { out = w.out; disks = c.with_names.result } in
    let are : ArePlaces w c.args.listings.now places = record { out = refl; disks = c.with_names.ensures } in
    let left = err_from_is_err_and c.from_residual.result c.from_residual.ensures.1 in
    rw (left.1, left.2) (λ out old new. (places, are, inl (tt, (refl, refl))))

pub returns-in_err-left-clause-fault : goal.returns-in_err-left-clause-fault
returns-in_err-left-clause-fault g c =
    let w = c.args.words.now in
    let places : Places = record { out = w.out; disks = c.with_names.result } in
    let are : ArePlaces w c.args.listings.now places = record { out = refl; disks = c.with_names.ensures } in
    let left = err_from_is_err_and c.from_residual-in_err-left.result c.from_residual-in_err-left.ensures.1 in
    rw (left.1, left.2) (λ out old new. (places, are, inl (tt, (refl, refl))))

pub returns-in_err-check_disks-clause-fault : goal.returns-in_err-check_disks-clause-fault
returns-in_err-check_disks-clause-fault g c =
    let w = c.args.words.now in
    let s = c.args.run.now.session.now in
    let places : Places = record { out = w.out; disks = c.with_names.result } in
    let are : ArePlaces w c.args.listings.now places = record { out = refl; disks = c.with_names.ensures } in
    let own = ap (λ h. files h c.journal.result.now.entries) c.files.ensures ∙ c.journal.ensures in
    let list = c.in_ok-entries.ensures ∙ list_of places s c.files.ensures own in
    let disks = c.disks_after-disks.ensures ∙ (λ i. disks_after w (c.cause-cause.ensures i) (c.looked_for-looked.ensures i)) in
    let cs = ap (map changed_by) c.as_slice-entries.ensures.value ∙ list in
    let left = err_from_is_err_and c.from_residual-in_err-check_disks.result c.from_residual-in_err-check_disks.ensures.1 in
    rw (left.1, left.2) (λ out old new. (
      places,
      are,
      inl ((rw (disks, cs) at c.in_err-check_disks.ensures.fault), (refl, c.in_err-check_disks.ensures.unchanged.bytes)),
    ))

pub settle-requires-clause-carried : goal.settle-requires-clause-carried
settle-requires-clause-carried g c =
    let w = c.args.words.now in
    let s = c.args.run.now.session.now in
    let l = c.args.listings.now in
    let places : Places = record { out = w.out; disks = c.with_names.result } in
    let are : ArePlaces w l places = record { out = refl; disks = c.with_names.ensures } in
    let own = ap (λ h. files h c.journal.result.now.entries) c.files.ensures ∙ c.journal.ensures in
    let list = c.in_ok-entries.ensures ∙ list_of places s c.files.ensures own in
    let cs = ap (map changed_by) c.as_slice-entries.ensures.value ∙ list in
    λ some. ap (λ (cs : List Changed). list_all is_carried (put_paths (puts c.disks_after-disks.result cs))) cs
    ∙ puts_carried w l places s.files (plain_run s).state.files c.disks_after-disks.result are c.requires.words some

pub returns-in_err-unsynced-clause-fault : goal.returns-in_err-unsynced-clause-fault
returns-in_err-unsynced-clause-fault g c =
    let w = c.args.words.now in
    let s = c.args.run.now.session.now in
    let places : Places = record { out = w.out; disks = c.with_names.result } in
    let are : ArePlaces w c.args.listings.now places = record { out = refl; disks = c.with_names.ensures } in
    let own = ap (λ h. files h c.journal.result.now.entries) c.files.ensures ∙ c.journal.ensures in
    let list = c.in_ok-entries.ensures ∙ list_of places s c.files.ensures own in
    let disks = c.disks_after-disks.ensures ∙ (λ i. disks_after w (c.cause-cause.ensures i) (c.looked_for-looked.ensures i)) in
    let cs = ap (map changed_by) c.as_slice-entries.ensures.value ∙ list in
    let unchanged = same_files c.in_ok-check_disks.ensures.unchanged in
    let left = err_from_is_err_and c.from_residual-in_err-unsynced.result c.from_residual-in_err-unsynced.ensures.1 in
    rw (left.1, left.2) (λ out old new. (
      places,
      are,
      inr (
        world (g.S.FileSystem.files c.args.system.now) out old,
        ((rw (disks, cs) at c.in_ok-check_disks.ensures.fit), refl),
        inl (rw (disks, cs, unchanged) at c.in_err-unsynced.ensures.fault out old new),
      ),
    ))

pub returns-clause-done : goal.returns-clause-done
returns-clause-done g c = λ out.
    let w = c.args.words.now in
    let s = c.args.run.now.session.now in
    let places : Places = record { out = w.out; disks = c.with_names.result } in
    let are : ArePlaces w c.args.listings.now places = record { out = refl; disks = c.with_names.ensures } in
    let own = ap (λ h. files h c.journal.result.now.entries) c.files.ensures ∙ c.journal.ensures in
    let list = c.in_ok-entries.ensures ∙ list_of places s c.files.ensures own in
    let cause = c.cause-cause.ensures in
    let looked = c.looked_for-looked.ensures in
    let disks = c.disks_after-disks.ensures ∙ (λ i. disks_after w (cause i) (looked i)) in
    let cs = ap (map changed_by) c.as_slice-entries.ensures.value ∙ list in
    let unchanged = same_files c.in_ok-check_disks.ensures.unchanged in
    let paths = ap (map string_bytes) c.as_slice.ensures.value ∙ c.in_ok-left.ensures in
    let unsynced = c.unsynced_folders-unsynced.ensures in
    let after = g.S.FileSystem.files c.settle.new.system in (
      places,
      are,
      (
        world (g.S.FileSystem.files c.args.system.now) out (g.E.Writer.output c.args.err.now),
        ((rw (disks, cs) at c.in_ok-check_disks.ensures.fit), refl),
        (
          world after out (g.E.Writer.output c.settle.new.err),
          (rw (disks, cs, unchanged) at c.in_ok-unsynced.ensures.done out),
          (
            c.in_ok-unsynced.unsynced,
            c.in_ok-unsynced.ensures.unsynced,
            (
              (c.exit_status.ensures ∙ (λ i. exit_status (cause i) (looked i) (unsynced i))),
              (
                world after out (g.E.Writer.output c.report_stop.new.err),
                ((rw (disks, cause, looked, cs, paths, unsynced) at c.report_stop.ensures), refl, refl),
                ((rw (disks, cs) at c.explain.ensures), refl, refl),
              ),
            ),
          ),
        ),
      ),
    )
