use Rattle.std.proofs.Common.{◌≡◌, ◌∙◌, ap, rules, sym, true}
use Rattle.std.specs.Option.{option_copied}
use Rattle.std.specs.Str.{bytes_eq}
use Rattle.std.proofs.lemmas.Slice.Eq.{bytes_eq-Decides}
use Rattle.plan.proofs.Additions.{one_same}
use Rattle.plan.proofs.looking.are_same.Goals as goal

pub loop-number-preserved : goal.loop-number-preserved
loop-number-preserved c =
    let a = c.in-Some-Some.a.now in
    let b = c.in-Some-Some.b.now in
    let same : bytes_eq a b ≡ true = search rules in
    one_same c.args.one.now c.args.other.now c.loop-number.number a b
    (sym (ap option_copied c.in-Some-Some.is-0) ∙ c.get.ensures) (sym (ap option_copied c.in-Some-Some.is-1) ∙ c.get-in-loop-number.ensures) ((bytes_eq-Decides a b).0 same) c.loop-number.invariant
