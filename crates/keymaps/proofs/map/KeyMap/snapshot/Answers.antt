use Rattle.std.proofs.Common.{ap, ◌∙◌}
use Rattle.std.specs.FinMap as finmap
use Rattle.std.specs.Ordering.{nat_cmp}
use Rattle.std.specs.Cmp.Lexicographic.{slice_cmp}
use Rattle.std.proofs.lemmas.Map.Entries.{entries_from_clone}
use Rattle.keymaps.proofs.map.KeyMap.snapshot.Goals as goal

pub returns : goal.returns
returns g c = λ same. ap (λ es. finmap.from_entries {R = slice_cmp nat_cmp} es) (entries_from_clone _ g.V.Clone.is_clone (λ x y h. h) same c.self.inside.map.entries c.in_ok-clone.field-0.entries c.in_ok-clone.ensures.cases) ∙ c.self.view_is
