use Rattle.std.proofs.Common.{Ok, Result, ℕ, ◌∙◌}
use Rattle.std.proofs.lemmas.Bool.Decides.{not_from_Decides}
use Rattle.keymaps.proofs.Views.{get_view, insert_view, on_err, places_total, same_place}
use Rattle.keymaps.proofs.Firsts.{place_told, absent_too, new_apart, kept_first, more, more_apart}
use Rattle.keymaps.proofs.record_set.RecordSet.insert.Goals as goal

pub invariant_of-self : goal.invariant_of-self
invariant_of-self c = new_apart places_total same_place _ _ c.self.inside.first c.self.view_is c.in_default.is c.self.invariant (c.args.key, c.args.place)

pub returns-then-eq-clause-ok : goal.returns-then-eq-clause-ok
returns-then-eq-clause-ok c =
    let same = place_told c.in-Some.first c.args.key c.args.place _ c.eq.ensures in
    kept_first places_total same_place _ _ c.self.inside.first c.self.view_is c.in-Some.first c.in-Some.is (c.args.key, c.args.place) (same.0 c.if-eq.true)

pub invariant_of-self-2 : goal.invariant_of-self-2
invariant_of-self-2 c =
    let done : Result (Unit {0}) ℕ = Ok tt in
    let same = place_told c.in-Some.first c.args.key c.args.place _ c.eq.ensures in
    more_apart places_total same_place _ _ c.self.inside.first c.self.view_is c.in-Some.first c.in-Some.is c.self.invariant done _ (c.args.key, c.args.place) (not_from_Decides _ same c.if-eq.false)
    (insert_view places_total same_place _ _ (c.args.key, c.args.place) tt c.in_ok-insert.ensures.updates.0) tt

pub returns-clause-ok : goal.returns-clause-ok
returns-clause-ok c =
    let done : Result (Unit {0}) ℕ = Ok tt in
    more places_total same_place _ _ c.self.inside.first c.self.view_is c.in-Some.first c.in-Some.is done _ (c.args.key, c.args.place)
    (insert_view places_total same_place _ _ (c.args.key, c.args.place) tt c.in_ok-insert.ensures.updates.0)

pub returns-in_err-insert-clause-absent : goal.returns-in_err-insert-clause-absent
returns-in_err-insert-clause-absent c =
    let same = place_told c.in-Some.first c.args.key c.args.place _ c.eq.ensures in
    absent_too places_total same_place _ _ c.self.inside.first c.self.view_is c.in-Some.first c.in-Some.is c.from_residual.result (c.args.key, c.args.place) (not_from_Decides _ same c.if-eq.false)
    (on_err c.from_residual.result (get_view places_total _ _ ∙ c.in_err-insert.ensures.absent))
