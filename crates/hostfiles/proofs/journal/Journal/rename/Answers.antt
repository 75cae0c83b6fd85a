use Rattle.std.proofs.Common.{ap, sym, ◌∙◌}
use Rattle.std.specs.FinMap.{remove}
use Rattle.std.specs.Cmp.Lexicographic.{nat_list_cmp_total}
use Rattle.hostfiles.specs.Files.{after_rename}
use Rattle.keymaps.proofs.Views.{there_now, remove_back, absent_of, same_key}
use Rattle.hostfiles.proofs.JournalLemmas.{renamed_over}
use Rattle.hostfiles.proofs.journal.Journal.rename.Goals as goal

pub rename_onto-requires-2-clause-entry : goal.rename_onto-requires-2-clause-entry
rename_onto-requires-2-clause-entry c = there_now nat_list_cmp_total same_key _ _ _ _ c.in_ok-insert.ensures.ok

pub returns-in-Err-clause-err : goal.returns-in-Err-clause-err
returns-in-Err-clause-err c =
    c.remove.ensures.removed ∙ ap (λ m. remove m c.args.new.now) (c.in-Err.ensures.err ∙ c.in_ok-insert.ensures.ok)
    ∙ remove_back nat_list_cmp_total same_key _ _ _ (absent_of _ (sym c.contains_key.ensures ∙ c.if-contains_key.false))

pub returns-clause-ok : goal.returns-clause-ok
returns-clause-ok c =
    c.in_default.ensures.ok ∙ ap (λ m. after_rename m c.args.old.now c.args.new.now) c.in_ok-insert.ensures.ok
    ∙ renamed_over c.args.self.now.entries _ _ c.gone.result c.requires
