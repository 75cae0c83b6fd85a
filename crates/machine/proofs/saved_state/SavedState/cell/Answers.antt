use Rattle.std.proofs.Common.{sym, ◌∙◌, ap, ℕ}
use Rattle.pagemem.specs.Cells.{own_in}
use Rattle.machine.specs.Machine.{session_answers}
use Rattle.machine.proofs.StepLemmas.{cell_written, cell_asked, within_cells}
use Rattle.machine.proofs.saved_state.SavedState.cell.Goals as goal

pub returns-in-Some : goal.returns-in-Some
returns-in-Some c =
    rw (← c.self.view_is) (λ text. sym (cell_written (session_answers c.args.session.now) (own_in c.self.inside.cells) c.self.inside.journal.entries (within_cells c.self.inside.cells) c.args.a c.in-Some.byte (sym c.written.ensures ∙ c.in-Some.is)))

pub returns-in-None : goal.returns-in-None
returns-in-None c =
    rw (← c.self.view_is) (λ text. c.at.ensures ∙ ap (λ (f : ℕ → ℕ). f c.args.a) c.image.ensures
    ∙ sym (cell_asked (session_answers c.args.session.now) (own_in c.self.inside.cells) c.self.inside.journal.entries (within_cells c.self.inside.cells) c.args.a (sym c.written.ensures ∙ c.in-None.is)))
