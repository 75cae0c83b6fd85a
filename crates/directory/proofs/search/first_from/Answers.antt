use Rattle.std.proofs.Common.{sym, ap, ◌∙◌, arith}
use Rattle.std.specs.List.{slice_get}
use Rattle.directory.proofs.Walk.{extent_turn, chunk_past, taken, left_out}
use Rattle.directory.proofs.search.first_from.Goals as goal

pub returns-in-Some-clause-entry : goal.returns-in-Some-clause-entry
returns-in-Some-clause-entry g c =
    sym (extent_turn c.args.key.now _ c.loop-extent.extent (let within = c.extents-extent-end.ensures.within in let below = c.loop-extent-test.true in omega arith) ∙ taken _ _ _ (sym c.entry_at.ensures.entry ∙ c.in-Some.is)) ∙ c.loop-extent.invariant

pub loop-extent-preserved : goal.loop-extent-preserved
loop-extent-preserved g c =
    sym (extent_turn c.args.key.now _ c.loop-extent.extent (let within = c.extents-extent-end.ensures.within in let below = c.loop-extent-test.true in omega arith) ∙ left_out _ _ (sym c.entry_at.ensures.entry ∙ c.in_default.is)) ∙ c.loop-extent.invariant

pub returns-clause-entry : goal.returns-clause-entry
returns-clause-entry g c =
    sym (ap (λ es. slice_get es 0) (chunk_past _ _ c.loop-extent.extent (λ e l u. let past = c.loop-extent-test.false in c.extents-extent-end.ensures.none e (omega arith) u))) ∙ c.loop-extent.invariant
