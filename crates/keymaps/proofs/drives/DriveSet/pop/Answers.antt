use Rattle.std.proofs.Common.{rules, refl, ap, sym, ◌∙◌}
use Rattle.std.specs.FinMap as finmap
use Rattle.keymaps.proofs.MarkLemmas.{contains_marked, absent_marked, none_left, marked_remove, one_less}
use Rattle.keymaps.proofs.drives.DriveSet.pop.Goals as goal

pub returns-then-self-eq0-clause-none : goal.returns-then-self-eq0-clause-none
returns-then-self-eq0-clause-none c = (refl, none_left c.args.self.now (ap finmap.len (sym c.self.view_is) ∙ sym c.self.invariant ∙ c.if-self-eq0.true))

pub returns-in_default-clause-none : goal.returns-in_default-clause-none
returns-in_default-clause-none c = (refl, λ d. ap (λ m. finmap.get m d) (sym c.self.view_is) ∙ absent_marked c.self.inside.marks d (c.in_default.ensures.none d))

pub invariant_of-self : goal.invariant_of-self
invariant_of-self c = one_less c.self.inside.marks c.self.inside.count c.in-Some.drive (search rules) c.self.invariant (search rules) c.in-Some.ensures.there

pub returns-clause-there : goal.returns-clause-there
returns-clause-there c = ap (λ m. finmap.contains_key m c.in-Some.drive) (sym c.self.view_is) ∙ contains_marked c.self.inside.marks c.in-Some.drive ∙ c.in-Some.ensures.there

pub returns-clause-some : goal.returns-clause-some
returns-clause-some c = marked_remove c.self.inside.marks c.in-Some.drive (search rules) ∙ ap (λ m. finmap.remove m c.in-Some.drive) c.self.view_is
