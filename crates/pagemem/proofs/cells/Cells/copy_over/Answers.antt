use Rattle.std.proofs.Common.{ap, arith, sym, ◌∙◌, ◌/◌, length}
use Rattle.std.proofs.lemmas.List.{get_or_read_under}
use Rattle.pagemem.specs.Pages.{page_own, slot_own}
use Rattle.pagemem.specs.declared.page.Slot.TheVariants.{Empty}
use Rattle.pagemem.proofs.RunLaws.{laid_in_page}
use Rattle.pagemem.proofs.cells.Cells.copy_over.Goals as goal

pub returns-in-Empty-clause-laid : goal.returns-in-Empty-clause-laid
returns-in-Empty-clause-laid c = λ h.
    let slot = get_or_read_under c.args.self.now.slots.items (c.args.at / 256) 256 c.index.result.now Empty c.index.ensures (omega arith) (sym c.args.self.now.all_slots ∙ c.args.self.now.slots.ok.0) in
    laid_in_page c.args.self.now.slots.items (slot_own Empty) c.args.at (length c.args.cells.now) c.args.beneath.now c.copy_marked.new.cells c.args.marks.now c.requires.page
    (ap slot_own (sym slot ∙ c.in-Empty.is)) (c.copy_marked.ensures.laid h)

pub returns-in-Owned-clause-laid : goal.returns-in-Owned-clause-laid
returns-in-Owned-clause-laid c = λ h.
    let slot = get_or_read_under c.args.self.now.slots.items (c.args.at / 256) 256 c.index.result.now Empty c.index.ensures (omega arith) (sym c.args.self.now.all_slots ∙ c.args.self.now.slots.ok.0) in
    laid_in_page c.args.self.now.slots.items (page_own c.deref.result.now) c.args.at (length c.args.cells.now) c.args.beneath.now c.copy_over.new.cells c.args.marks.now c.requires.page
    (ap slot_own (sym slot ∙ c.in-Owned.is) ∙ ap page_own (sym c.deref.ensures)) (c.copy_over.ensures.laid h)

pub returns-in-Shared-clause-laid : goal.returns-in-Shared-clause-laid
returns-in-Shared-clause-laid c = λ h.
    let slot = get_or_read_under c.args.self.now.slots.items (c.args.at / 256) 256 c.index.result.now Empty c.index.ensures (omega arith) (sym c.args.self.now.all_slots ∙ c.args.self.now.slots.ok.0) in
    laid_in_page c.args.self.now.slots.items (page_own c.deref-in-Shared.result.now) c.args.at (length c.args.cells.now) c.args.beneath.now c.copy_over-in-Shared.new.cells c.args.marks.now c.requires.page
    (ap slot_own (sym slot ∙ c.in-Shared.is) ∙ ap page_own (sym c.deref-in-Shared.ensures)) (c.copy_over-in-Shared.ensures.laid h)
