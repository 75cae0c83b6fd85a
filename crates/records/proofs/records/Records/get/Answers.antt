use Rattle.std.proofs.Common.{ap, sym, ◌∙◌, get_or, None, arith, ◌/◌}
use Rattle.std.specs.FinMap as finmap
use Rattle.records.specs.Extents.{record_in_extents}
use Rattle.records.proofs.KeptLemmas.{get_kept, get_past}
use Rattle.records.proofs.Laws.{own_found, own_missing}
use Rattle.records.proofs.records.Records.get.Goals as goal

pub returns-then-record_number-ge-RECORD_LIMIT : goal.returns-then-record_number-ge-RECORD_LIMIT
returns-then-record_number-ge-RECORD_LIMIT c = sym (get_past (record_in_extents c.self.inside.extents.items) c.args.record_number (omega arith)) ∙ ap (λ m. finmap.get m c.args.record_number) c.self.view_is

pub returns-in-Some : goal.returns-in-Some
returns-in-Some c = c.get.ensures
    ∙ own_found c.self.inside.extents.items c.args.record_number _ (c.in-Some.ensures ∙ ap (λ l. get_or l (c.args.record_number / 128) None) c.deref.ensures.value)
    ∙ sym (get_kept (record_in_extents c.self.inside.extents.items) c.args.record_number (omega arith)) ∙ ap (λ m. finmap.get m c.args.record_number) c.self.view_is

pub returns-in-None : goal.returns-in-None
returns-in-None c = own_missing c.self.inside.extents.items c.args.record_number (c.in-None.ensures ∙ ap (λ l. get_or l (c.args.record_number / 128) None) c.deref.ensures.value)
    ∙ sym (get_kept (record_in_extents c.self.inside.extents.items) c.args.record_number (omega arith)) ∙ ap (λ m. finmap.get m c.args.record_number) c.self.view_is
