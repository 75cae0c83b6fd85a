use Rattle.std.proofs.Common.{sym, ap, ◌∙◌}
use Rattle.std.specs.List.{find}
use Rattle.directory.specs.Entries.{matches}
use Rattle.directory.specs.Parts.{file_entries_from}
use Rattle.directory.proofs.Walk.{key_turn, key_end, no_match, taken, left_out}
use Rattle.directory.proofs.search.first_above.Goals as goal

pub returns-in-Some-first_extent-clause-entry : goal.returns-in-Some-first_extent-clause-entry
returns-in-Some-first_extent-clause-entry g c =
    let here = c.first_extent.ensures.entry c.args.pattern.now (sym c.is_match.ensures ∙ c.if-not-is_match.false)
    ∙ ap (λ v. find (matches c.args.pattern.now c.args.ex) (file_entries_from c.in-Some.next.key v 0)) c.in-Some.ensures.file in
    sym (key_turn _ c.args.pattern.now c.args.ex _ c.in-Some.next.key c.in-Some.ensures.least ∙ taken _ _ _ (sym here ∙ c.in-Some-first_extent.is)) ∙ c.loop-next.invariant

pub loop-next-preserved-then-not-is_match : goal.loop-next-preserved-then-not-is_match
loop-next-preserved-then-not-is_match g c =
    sym (key_turn _ c.args.pattern.now c.args.ex _ c.in-Some.next.key c.in-Some.ensures.least ∙ left_out _ _ (no_match c.in-Some.next.key _ 0 c.args.pattern.now c.args.ex (sym c.is_match.ensures ∙ c.if-not-is_match.true))) ∙ c.loop-next.invariant

pub loop-next-preserved : goal.loop-next-preserved
loop-next-preserved g c =
    let here = c.first_extent.ensures.entry c.args.pattern.now (sym c.is_match.ensures ∙ c.if-not-is_match.false)
    ∙ ap (λ v. find (matches c.args.pattern.now c.args.ex) (file_entries_from c.in-Some.next.key v 0)) c.in-Some.ensures.file in
    sym (key_turn _ c.args.pattern.now c.args.ex _ c.in-Some.next.key c.in-Some.ensures.least ∙ left_out _ _ (sym here ∙ c.in_default-first_extent.is)) ∙ c.loop-next.invariant

pub returns-clause-entry : goal.returns-clause-entry
returns-clause-entry g c = sym (key_end _ c.args.pattern.now c.args.ex _ c.in_default.ensures.least) ∙ c.loop-next.invariant
