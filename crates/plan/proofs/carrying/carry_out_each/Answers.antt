use Rattle.std.proofs.Common.{◌≡◌, ◌<◌, ◌∙◌, ◌∷◌, [], length, refl, rules, subst, sym}
use Rattle.folders.specs.FileSystem.{Becomes}
use Rattle.plan.specs.Plans.{committed, path_of, temporary_of}
use Rattle.plan.specs.declared.looking.Trouble.TheVariants.{Failed}
use Rattle.plan.proofs.Committing.{one_done}
use Rattle.plan.proofs.Failures.{adds_nothing, item_at, none_failed, on_err, on_ok, one_failed, one_uncommitted, one_unprepared, same_item, same_paths}
use Rattle.plan.proofs.carrying.carry_out_each.Goals as goal

pub returns-in-Err-clause-carried : goal.returns-in-Err-clause-carried
returns-in-Err-clause-carried g c =
    let deeds = c.args.plan.deeds.items in
    let below : c.loop-at.at < length deeds = search rules in
    let d = c.index.result.now in
    let now = (g.S.FileSystem.files c.loop-at.system).bytes in
    let after = (g.S.FileSystem.files c.look_at.new.system).bytes in (
      c.loop-at.at,
      now,
      c.loop-at.invariant.done,
      one_unprepared g.C.Contents.bytes deeds c.loop-at.at d (item_at deeds c.loop-at.at d below c.index.ensures) now after c.unprepared.result
          (adds_nothing (temporary_of d) now after c.look_at.ensures.unchanged.bytes) c.unprepared.ensures.fault,
    )

pub returns-in-Err-clause-failed : goal.returns-in-Err-clause-failed
returns-in-Err-clause-failed g c =
    let deeds = c.args.plan.deeds.items in
    let below : c.loop-at.at < length deeds = search rules in
    let d = c.index.result.now in
    same_paths deeds c.loop-at.at d c.in-Err.trouble _ _ _ _ (item_at deeds c.loop-at.at d below c.index.ensures) c.unprepared.ensures.paths
    c.in-Err.ensures.unchanged.failed c.loop-at.invariant.failed

pub returns-in-Err-prepare_one-clause-carried : goal.returns-in-Err-prepare_one-clause-carried
returns-in-Err-prepare_one-clause-carried g c =
    let deeds = c.args.plan.deeds.items in
    let below : c.loop-at.at < length deeds = search rules in
    let d = c.index-in-loop-at.result.now in
    let now = (g.S.FileSystem.files c.loop-at.system).bytes in
    let after = (g.S.FileSystem.files c.prepare_one.new.system).bytes in (
      c.loop-at.at,
      now,
      c.loop-at.invariant.done,
      one_unprepared g.C.Contents.bytes deeds c.loop-at.at d (item_at deeds c.loop-at.at d below c.index-in-loop-at.ensures) now after c.unprepared-in-Err-prepare_one.result
          (rw c.look_at.ensures.unchanged.bytes at c.in-Err-prepare_one.ensures.err) c.unprepared-in-Err-prepare_one.ensures.fault,
    )

pub returns-in-Err-prepare_one-clause-failed : goal.returns-in-Err-prepare_one-clause-failed
returns-in-Err-prepare_one-clause-failed g c =
    let deeds = c.args.plan.deeds.items in
    let below : c.loop-at.at < length deeds = search rules in
    let d = c.index-in-loop-at.result.now in
    same_paths deeds c.loop-at.at d c.in-Err-prepare_one.trouble _ _ _ _ (item_at deeds c.loop-at.at d below c.index-in-loop-at.ensures)
    c.unprepared-in-Err-prepare_one.ensures.paths c.in-Err-prepare_one.ensures.failed (c.in_default.ensures.unchanged.failed ∙ c.loop-at.invariant.failed)

pub returns-then-is_err-clause-carried : goal.returns-then-is_err-clause-carried
returns-then-is_err-clause-carried g c =
    let deeds = c.args.plan.deeds.items in
    let below : c.loop-at.at < length deeds = search rules in
    let d = c.index-in-loop-at.result.now in
    let now = (g.S.FileSystem.files c.loop-at.system).bytes in
    let prepared = (g.S.FileSystem.files c.prepare_one.new.system).bytes in
    let after = (g.S.FileSystem.files c.commit_one.new.system).bytes in
    let here = item_at deeds c.loop-at.at d below c.index-in-loop-at.ensures in (
      c.loop-at.at,
      now,
      c.loop-at.invariant.done,
      one_uncommitted g.C.Contents.bytes deeds c.loop-at.at d here now prepared after c.uncommitted_alone.result
          (rw c.look_at.ensures.unchanged.bytes at c.in_default-prepare_one.ensures.prepared)
          (on_err c.commit_one.result (sym c.is_err.ensures.value ∙ c.if-is_err.true) c.commit_one.ensures.err) (rw here at c.uncommitted_alone.ensures.fault),
    )

pub returns-then-is_err-clause-failed : goal.returns-then-is_err-clause-failed
returns-then-is_err-clause-failed g c =
    let deeds = c.args.plan.deeds.items in
    let below : c.loop-at.at < length deeds = search rules in
    let d = c.index-in-loop-at-2.result.now in
    same_paths deeds c.loop-at.at d Failed _ _ _ _ (item_at deeds c.loop-at.at d below c.index-in-loop-at-2.ensures) c.uncommitted_alone.ensures.paths
    (one_failed (path_of d ∷ []) c.commit_one.result _ _ (sym c.is_err.ensures.value ∙ c.if-is_err.true) c.commit_one.ensures.failed)
    (c.in_default-prepare_one.ensures.failed ∙ c.in_default.ensures.unchanged.failed ∙ c.loop-at.invariant.failed)

pub loop-at-preserved : goal.loop-at-preserved
loop-at-preserved g c =
    let deeds = c.args.plan.deeds.items in
    let below : c.loop-at.at < length deeds = search rules in
    let at = c.loop-at.at in
    let d = c.index-in-loop-at.result.now in
    let e = c.index-in-loop-at-2.result.now in
    let same : d ≡ e = same_item deeds at (item_at deeds at d below c.index-in-loop-at.ensures) (item_at deeds at e below c.index-in-loop-at-2.ensures) in
    let prepared = (g.S.FileSystem.files c.prepare_one.new.system).bytes in
    let after = (g.S.FileSystem.files c.commit_one.new.system).bytes in
    let fine = sym c.is_err.ensures.value ∙ c.if-is_err.false in
    record {
      same = refl;
      failed = none_failed (path_of e ∷ []) c.commit_one.result _ _ fine c.commit_one.ensures.failed ∙ c.in_default-prepare_one.ensures.failed ∙ c.in_default.ensures.unchanged.failed ∙ c.loop-at.invariant.failed;
      done = one_done g.C.Contents.bytes deeds at d (g.S.FileSystem.files c.args.system.now).bytes (g.S.FileSystem.files c.loop-at.system).bytes prepared after below
          c.index-in-loop-at.ensures c.loop-at.invariant.done (rw c.look_at.ensures.unchanged.bytes at c.in_default-prepare_one.ensures.prepared)
          (rw c.look_at.ensures.unchanged.bytes at c.in_default-prepare_one.ensures.free)
          (subst (λ x. Becomes prepared after (committed x)) (sym same) (on_ok c.commit_one.result fine c.commit_one.ensures.moved));
    }
