use Rattle.std.proofs.Common.{sym, ◌∙◌, ◌≤◌, inl, inr, arith}
use Rattle.std.proofs.lemmas.Bool.{cases_lt}
use Rattle.directory.proofs.Walk.{any_extent, one_extent}
use Rattle.directory.proofs.search.first_extent.Goals as goal

pub returns-then-ex-eq63-clause-entry : goal.returns-then-ex-eq63-clause-entry
returns-then-ex-eq63-clause-entry g c = λ pattern same. c.first_from.ensures.entry ∙ sym (any_extent c.args.key.now _ c.args.from pattern c.args.ex same c.if-ex-eq63.true)

pub returns-clause-entry : goal.returns-clause-entry
returns-clause-entry g c = λ pattern same.
    let reached : c.args.from ≤ c.args.ex = elim (cases_lt c.args.ex c.args.from) [ inl below ↦ absurd (c.if-ex-eq63.false (c.requires below)) | inr past ↦ past ] in
    c.entry_at.ensures.entry ∙ sym (one_extent c.args.key.now _ c.args.from pattern c.args.ex same c.if-ex-eq63.false reached (let fits = c.ranges.ex.fits in omega arith))
