use Rattle.std.proofs.Common.{◌≡◌, ◌∙◌, ◌++◌, IfSome, ap, map, subst}
use Rattle.std.proofs.lemmas.Result.{err_from_is_err_and}
use Rattle.folders.proofs.FilesLemmas.{keeps_err, same_files}
use Rattle.folders.specs.FileSystem.{StoredFiles}
use Rattle.one_run.specs.ChangedList.{planned_for, changed_by}
use Rattle.one_run.specs.DryRun.{foretold, seen}
use Rattle.one_run.proofs.Foretelling.{one_more_foretold}
use Rattle.one_run.proofs.dry_run.foretell.Goals as goal

pub returns-in_err-foretell_one-clause-unchanged : goal.returns-in_err-foretell_one-clause-unchanged
returns-in_err-foretell_one-clause-unchanged g c =
    let left = err_from_is_err_and c.from_residual.result c.from_residual.ensures.1 in
    rw (left.1, left.2) (keeps_err c.loop-entry.invariant.unchanged c.in_err-foretell_one.ensures.unchanged)

pub loop-entry-preserved : goal.loop-entry-preserved
loop-entry-preserved g c =
    let old = g.S.FileSystem.files c.args.system.now in
    let same = c.loop-entry.invariant.unchanged in
    let one = subst
    (λ (f : StoredFiles). IfSome f.bytes (λ stored. map seen c.foretell_one.new.list.items
    ≡ map seen c.loop-entry.list.items ++ foretold stored (planned_for c.args.turn (changed_by c.entry-item.result))))
    same c.in_ok-foretell_one.ensures.added in
    record {
      unchanged = same_files c.in_ok-foretell_one.ensures.unchanged ∙ same;
      added = one_more_foretold old.bytes c.args.turn c.args.entries.now c.loop-entry.entry-index c.entry-item.result (map seen c.args.list.now.items)
          (map seen c.loop-entry.list.items) (map seen c.foretell_one.new.list.items) c.loop-entry-test.true c.entry-item.is c.loop-entry.invariant.added one;
    }
