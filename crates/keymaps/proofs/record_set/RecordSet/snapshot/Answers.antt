use Rattle.std.proofs.Common.{ap, refl, ◌∙◌}
use Rattle.std.specs.FinMap as finmap
use Rattle.std.proofs.lemmas.Map.Entries.{entries_from_clone}
use Rattle.std.proofs.lemmas.List.Elements.{same_from_all_zip}
use Rattle.keymaps.specs.Firsts.{with_first, IsFirstApart}
use Rattle.keymaps.specs.Order.{record_cmp}
use Rattle.keymaps.proofs.Views.{same_pair}
use Rattle.keymaps.proofs.record_set.RecordSet.snapshot.Goals as goal

pub invariant_of-result : goal.invariant_of-result
invariant_of-result c =
    let same = entries_from_clone _ _ (λ x y h. same_pair x y (same_from_all_zip _ x.0 y.0 h.0.whole (λ a b e. e)) h.1) (λ v w h. refl) c.self.inside.rest.entries c.in_ok-clone.field-0.entries c.in_ok-clone.ensures.cases in
    rw same c.self.invariant

pub returns : goal.returns
returns c =
    let same = entries_from_clone _ _ (λ x y h. same_pair x y (same_from_all_zip _ x.0 y.0 h.0.whole (λ a b e. e)) h.1) (λ v w h. refl) c.self.inside.rest.entries c.in_ok-clone.field-0.entries c.in_ok-clone.ensures.cases in
    ap (λ es. with_first c.self.inside.first (finmap.from_entries {R = record_cmp} es)) same ∙ c.self.view_is
