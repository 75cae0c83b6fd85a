use Rattle.std.proofs.Common.{◌++◌, ◌∙◌, ap, inl, inr, map, refl}
use Rattle.std.specs.Option.{option_map}
use Rattle.std.proofs.lemmas.Result.{err_from_is_err_and}
use Rattle.folders.proofs.FilesLemmas.{same_files}
use Rattle.folders.specs.FileSystem.{StoredFiles}
use Rattle.one_run.specs.ChangedList.{changed_by, planned}
use Rattle.one_run.specs.declared.planning.Turn.TheVariants.{Outside}
use Rattle.cpmrun.specs.Reports as reports
use Rattle.cpmrun.specs.Reports.{told}
use Rattle.cpmrun.specs.RunEnds.{asked}
use Rattle.cpmrun.proofs.Carrying.{breaks_changes, carries_then, changes_files, disk_puts_planned, is_plan}
use Rattle.cpmrun.proofs.Targets.{paths_put}
use Rattle.cpmrun.proofs.word_run.change.Goals as goal

pub returns-clause-done : goal.returns-clause-done
returns-clause-done g c =
    let w = c.args.words.now in
    let s = c.args.run.now.session.now in
    let disks = c.args.disks in
    let cs = map changed_by c.args.entries.now in
    let before = g.S.FileSystem.files c.args.system.now in
    let outside = c.in_ok-plan_turn.ensures.planned ∙ ap (λ t. asked t ++ planned Outside cs) c.new-outside.ensures.deeds in
    let puts = disk_puts_planned disks cs _ _ _ (ap asked c.avoiding-plan.ensures.deeds) c.in_ok-plan_on_disks.ensures.planned c.in_ok-plan_on_disks-2.ensures.planned in
    let looked = same_files c.in_ok-check_changes-2.ensures.unchanged ∙ same_files c.in_ok-check_changes.ensures.unchanged ∙ same_files c.in_ok-plan_on_disks-2.ensures.unchanged
    ∙ same_files c.in_ok-plan_on_disks.ensures.unchanged ∙ same_files c.in_ok-plan_turn.ensures.unchanged in
    let same = ap (λ (f : StoredFiles). f.bytes) (same_files c.in_ok-plan_on_disks-3.ensures.unchanged ∙ same_files c.in_ok-placing.ensures.unchanged ∙ looked) in
    let paths = c.in_ok-written.ensures ∙ paths_put disks cs _ _ (ap asked c.as_slice-3.ensures.value ∙ outside) (ap asked c.as_slice-4.ensures.value ∙ puts) in
    let rule = option_map told c.in_ok-rule.rule in
    let is = is_plan w c.args.listings.now s disks cs before rule _ _ _ _ (reports.is_in_plan c.in_ok-placing.placing) paths c.in_ok-rule.ensures
    (rw looked at c.in_ok-placing.ensures.apart) puts c.in_ok-placing.ensures.planned c.in_ok-plan_on_disks-3.ensures.planned in
    changes_files w c.args.listings.now s disks cs before _ _ _ _ is outside same
    (carries_then _ _ _ _ _ c.in_ok-unsynced.ensures.done c.in_ok-write_report.ensures.bytes)

pub returns-in_err-write_report-clause-fault : goal.returns-in_err-write_report-clause-fault
returns-in_err-write_report-clause-fault g c =
    let w = c.args.words.now in
    let s = c.args.run.now.session.now in
    let disks = c.args.disks in
    let cs = map changed_by c.args.entries.now in
    let before = g.S.FileSystem.files c.args.system.now in
    let outside = c.in_ok-plan_turn.ensures.planned ∙ ap (λ t. asked t ++ planned Outside cs) c.new-outside.ensures.deeds in
    let puts = disk_puts_planned disks cs _ _ _ (ap asked c.avoiding-plan.ensures.deeds) c.in_ok-plan_on_disks.ensures.planned c.in_ok-plan_on_disks-2.ensures.planned in
    let looked = same_files c.in_ok-check_changes-2.ensures.unchanged ∙ same_files c.in_ok-check_changes.ensures.unchanged ∙ same_files c.in_ok-plan_on_disks-2.ensures.unchanged
    ∙ same_files c.in_ok-plan_on_disks.ensures.unchanged ∙ same_files c.in_ok-plan_turn.ensures.unchanged in
    let same = ap (λ (f : StoredFiles). f.bytes) (same_files c.in_ok-plan_on_disks-3.ensures.unchanged ∙ same_files c.in_ok-placing.ensures.unchanged ∙ looked) in
    let paths = c.in_ok-written.ensures ∙ paths_put disks cs _ _ (ap asked c.as_slice-3.ensures.value ∙ outside) (ap asked c.as_slice-4.ensures.value ∙ puts) in
    let rule = option_map told c.in_ok-rule.rule in
    let is = is_plan w c.args.listings.now s disks cs before rule _ _ _ _ (reports.is_in_plan c.in_ok-placing.placing) paths c.in_ok-rule.ensures
    (rw looked at c.in_ok-placing.ensures.apart) puts c.in_ok-placing.ensures.planned c.in_ok-plan_on_disks-3.ensures.planned in
    let carried = carries_then _ _ _ _ _ c.in_ok-unsynced.ensures.done c.in_err-write_report.ensures.bytes in
    let left = err_from_is_err_and c.from_residual-in_err-write_report.result c.from_residual-in_err-write_report.ensures.1 in
    rw (left.1, left.2) (breaks_changes w c.args.listings.now s disks cs before _ _ _ _ is outside same _
    (inr (c.in_err-write_report.field-0.0, refl, c.in_err-write_report.ensures.fault, carried)))

pub returns-in_err-unsynced-clause-fault : goal.returns-in_err-unsynced-clause-fault
returns-in_err-unsynced-clause-fault g c =
    let w = c.args.words.now in
    let s = c.args.run.now.session.now in
    let disks = c.args.disks in
    let cs = map changed_by c.args.entries.now in
    let before = g.S.FileSystem.files c.args.system.now in
    let outside = c.in_ok-plan_turn.ensures.planned ∙ ap (λ t. asked t ++ planned Outside cs) c.new-outside.ensures.deeds in
    let puts = disk_puts_planned disks cs _ _ _ (ap asked c.avoiding-plan.ensures.deeds) c.in_ok-plan_on_disks.ensures.planned c.in_ok-plan_on_disks-2.ensures.planned in
    let looked = same_files c.in_ok-check_changes-2.ensures.unchanged ∙ same_files c.in_ok-check_changes.ensures.unchanged ∙ same_files c.in_ok-plan_on_disks-2.ensures.unchanged
    ∙ same_files c.in_ok-plan_on_disks.ensures.unchanged ∙ same_files c.in_ok-plan_turn.ensures.unchanged in
    let same = ap (λ (f : StoredFiles). f.bytes) (same_files c.in_ok-plan_on_disks-3.ensures.unchanged ∙ same_files c.in_ok-placing.ensures.unchanged ∙ looked) in
    let paths = c.in_ok-written.ensures ∙ paths_put disks cs _ _ (ap asked c.as_slice-3.ensures.value ∙ outside) (ap asked c.as_slice-4.ensures.value ∙ puts) in
    let rule = option_map told c.in_ok-rule.rule in
    let is = is_plan w c.args.listings.now s disks cs before rule _ _ _ _ (reports.is_in_plan c.in_ok-placing.placing) paths c.in_ok-rule.ensures
    (rw looked at c.in_ok-placing.ensures.apart) puts c.in_ok-placing.ensures.planned c.in_ok-plan_on_disks-3.ensures.planned in
    let left = err_from_is_err_and c.from_residual-in_err-unsynced.result c.from_residual-in_err-unsynced.ensures.1 in
    rw (left.1, left.2) (breaks_changes w c.args.listings.now s disks cs before _ _ _ _ is outside same _ (inl c.in_err-unsynced.ensures.fault))
