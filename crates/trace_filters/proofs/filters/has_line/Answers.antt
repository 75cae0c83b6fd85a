use Rattle.std.proofs.Common.{sym, ◌∙◌}
use Rattle.trace_filters.proofs.ChosenLemmas.{chosen_instruction, line_by_cells, line_of_all, no_line}
use Rattle.trace_filters.proofs.filters.has_line.Goals as goal

pub returns-then-not-is_chosen-clause-line : goal.returns-then-not-is_chosen-clause-line
returns-then-not-is_chosen-clause-line c = sym (no_line _ _ _ _ (sym c.is_chosen.ensures ∙ c.if-not-is_chosen.true))

pub returns-then-is_none-2-clause-line : goal.returns-then-is_none-2-clause-line
returns-then-is_none-2-clause-line c = sym (line_of_all _ _ _ _ (sym c.is_chosen.ensures ∙ c.if-not-is_chosen.false) c.if-is_none.ensures c.if-is_none-2.ensures)

pub returns-then-is_at_call-clause-line : goal.returns-then-is_at_call-clause-line
returns-then-is_at_call-clause-line c = rw (line_by_cells _ _ _ _ (sym c.is_chosen.ensures ∙ c.if-not-is_chosen.false)) c.call_passes.ensures

pub instruction_passes-requires : goal.instruction_passes-requires
instruction_passes-requires c =
    chosen_instruction _ _ _ (sym c.is_chosen.ensures ∙ c.if-not-is_chosen.false) (sym c.is_at_call.ensures ∙ c.if-is_at_call.false)

pub returns-clause-line : goal.returns-clause-line
returns-clause-line c = rw (line_by_cells _ _ _ _ (sym c.is_chosen.ensures ∙ c.if-not-is_chosen.false)) c.instruction_passes.ensures
