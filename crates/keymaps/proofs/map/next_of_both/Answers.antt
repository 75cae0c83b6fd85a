use Rattle.std.proofs.Common.{sym, ap, subst, ◌∙◌, ◌≡◌}
use Rattle.std.specs.FinMap.{get}
use Rattle.std.specs.Ordering.{nat_cmp}
use Rattle.std.specs.declared.cmp.Ordering.TheVariants.{Less}
use Rattle.std.specs.Cmp.Lexicographic.{slice_cmp, nat_list_cmp_total}
use Rattle.keymaps.proofs.Views.{same_key}
use Rattle.keymaps.proofs.Left.{fewer_by_first, fewer_by_second, turned}
use Rattle.keymaps.proofs.map.next_of_both.Goals as goal

pub returns-in_default-clause-fewer : goal.returns-in_default-clause-fewer
returns-in_default-clause-fewer g c = rw c.key_with.ensures.key (fewer_by_second c.args.first.now c.args.second.now c.args.after c.in_ok-y.y.now c.in_ok-y.ensures.least.0 c.in_ok-y.ensures.fewer)

pub returns-in_default-next_key_value-clause-fewer : goal.returns-in_default-next_key_value-clause-fewer
returns-in_default-next_key_value-clause-fewer g c = rw c.key_with-in_default-next_key_value.ensures.key (fewer_by_first c.args.first.now c.args.second.now c.args.after c.in-Some.x.now c.in-Some.ensures.least.0 c.in-Some.ensures.fewer)

pub returns-in-Less-clause-least : goal.returns-in-Less-clause-least
returns-in-Less-clause-least g c = rw c.key_with-in-Less.ensures.key (
  c.in-Some.ensures.least.0,
  λ z above below.
      (c.in-Some.ensures.least.1 z above below, c.in-Some-next_key_value.ensures.least.1 z above (nat_list_cmp_total.trans z c.in-Some.x.now c.in-Some-next_key_value.y.now below (sym c.cmp.ensures ∙ c.in-Less.is))),
)

pub returns-in-Less-clause-fewer : goal.returns-in-Less-clause-fewer
returns-in-Less-clause-fewer g c = rw c.key_with-in-Less.ensures.key (fewer_by_first c.args.first.now c.args.second.now c.args.after c.in-Some.x.now c.in-Some.ensures.least.0 c.in-Some.ensures.fewer)

pub returns-in-Equal-clause-second : goal.returns-in-Equal-clause-second
returns-in-Equal-clause-second g c =
    let same : c.in-Some.x.now ≡ c.in-Some-next_key_value.y.now = same_key _ _ (sym c.cmp.ensures ∙ c.in-Equal.is) in
    rw (c.key_with-in-Equal.ensures.second, c.key_with-in-Equal.ensures.key) (sym (ap (get c.args.second.now) same ∙ c.in-Some-next_key_value.ensures.there))

pub returns-in-Equal-clause-least : goal.returns-in-Equal-clause-least
returns-in-Equal-clause-least g c = rw c.key_with-in-Equal.ensures.key (
  c.in-Some.ensures.least.0,
  λ z above below.
      let same : c.in-Some.x.now ≡ c.in-Some-next_key_value.y.now = same_key _ _ (sym c.cmp.ensures ∙ c.in-Equal.is) in
      (c.in-Some.ensures.least.1 z above below, c.in-Some-next_key_value.ensures.least.1 z above (subst (λ k. slice_cmp nat_cmp z k ≡ Less) same below)),
)

pub returns-in-Equal-clause-fewer : goal.returns-in-Equal-clause-fewer
returns-in-Equal-clause-fewer g c = rw c.key_with-in-Equal.ensures.key (fewer_by_first c.args.first.now c.args.second.now c.args.after c.in-Some.x.now c.in-Some.ensures.least.0 c.in-Some.ensures.fewer)

pub returns-in-Greater-clause-first : goal.returns-in-Greater-clause-first
returns-in-Greater-clause-first g c = rw (c.key_with-in-Greater.ensures.first, c.key_with-in-Greater.ensures.key) (sym (c.in-Some.ensures.least.1 c.in-Some-next_key_value.y.now c.in-Some-next_key_value.ensures.least.0 (turned c.in-Some.x.now c.in-Some-next_key_value.y.now (sym c.cmp.ensures ∙ c.in-Greater.is))))

pub returns-in-Greater-clause-least : goal.returns-in-Greater-clause-least
returns-in-Greater-clause-least g c = rw c.key_with-in-Greater.ensures.key (
  c.in-Some-next_key_value.ensures.least.0,
  λ z above below.
      (c.in-Some.ensures.least.1 z above (nat_list_cmp_total.trans z c.in-Some-next_key_value.y.now c.in-Some.x.now below (turned c.in-Some.x.now c.in-Some-next_key_value.y.now (sym c.cmp.ensures ∙ c.in-Greater.is))), c.in-Some-next_key_value.ensures.least.1 z above below),
)

pub returns-in-Greater-clause-fewer : goal.returns-in-Greater-clause-fewer
returns-in-Greater-clause-fewer g c = rw c.key_with-in-Greater.ensures.key (fewer_by_second c.args.first.now c.args.second.now c.args.after c.in-Some-next_key_value.y.now c.in-Some-next_key_value.ensures.least.0 c.in-Some-next_key_value.ensures.fewer)
