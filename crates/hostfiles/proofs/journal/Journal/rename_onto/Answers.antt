use Rattle.std.proofs.Common.{is_some, ap, refl, ◌∙◌}
use Rattle.std.specs.FinMap.{get}
use Rattle.std.specs.Cmp.Lexicographic.{nat_list_cmp_total}
use Rattle.keymaps.proofs.Views.{there_still, same_key}
use Rattle.hostfiles.proofs.journal.Journal.rename_onto.Goals as goal

pub put-requires : goal.put-requires
put-requires c = ap (λ m. is_some (get m c.args.new.now)) (c.in_ok-insert.ensures.ok) ∙ there_still nat_list_cmp_total same_key _ _ _ _ (ap (λ m. is_some (get m c.args.new.now)) (c.in_default.ensures.none) ∙ c.requires.entry)

pub put-requires-2 : goal.put-requires-2
put-requires-2 c = ap (λ m. is_some (get m c.args.new.now)) (c.in-Some.ensures.some refl) ∙ there_still nat_list_cmp_total same_key _ _ _ _ c.requires.entry
