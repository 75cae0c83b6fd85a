use Rattle.std.proofs.Common.{◌≡◌, false, is_ok, refl, rules, string_bytes}
use Rattle.std.specs.List.{list_any}
use Rattle.plan.specs.Plans.{is_first_at}
use Rattle.plan.specs.declared.deed.Deed.TheVariants.{Remove}
use Rattle.plan.proofs.Additions.{none_of, pushed, pushed_apart}
use Rattle.plan.proofs.making.Plan.remove.Goals as goal

pub invariant_of-self : goal.invariant_of-self
invariant_of-self g c =
    let own = c.args.self.now in
    let path = string_bytes c.args.path in
    let none : list_any (is_first_at path) own.deeds.items ≡ false = search rules in
    record {
      apart = pushed (is_ok c.push.result) own.deeds.items c.push.new.self.items (Remove c.args.path c.args.before) c.push.ensures.items own.apart
          (none_of (is_first_at path) own.deeds.items none) (λ k x less. refl) refl;
      avoids = λ avoided is. pushed_apart (is_ok c.push.result) own.deeds.items c.push.new.self.items (Remove c.args.path c.args.before)
          avoided.now c.push.ensures.items (own.avoids avoided is) refl;
    }
