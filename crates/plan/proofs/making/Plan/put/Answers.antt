use Rattle.std.proofs.Common.{◌≡◌, false, is_ok, refl, rules, string_bytes}
use Rattle.std.specs.List.{list_any}
use Rattle.folders.specs.Temporaries.{IsTemporaryOf}
use Rattle.plan.specs.Plans.{IsApartFrom, is_first_at}
use Rattle.plan.specs.declared.deed.Deed.TheVariants.{Put}
use Rattle.plan.proofs.Additions.{apart_from, apart_path, none_of, pushed, pushed_apart}
use Rattle.plan.proofs.making.Plan.put.Goals as goal

pub invariant_of-self-2 : goal.invariant_of-self-2
invariant_of-self-2 g c =
    let own = c.args.self.now in
    let path = string_bytes c.args.path in
    let temporary = string_bytes c.in-Ok-Some.temporary in
    let none : list_any (is_first_at path) own.deeds.items ≡ false = search rules in
    let apart : IsApartFrom own.deeds.items path own.avoided temporary = search rules in
    record {
      apart = pushed (is_ok c.push.result) own.deeds.items c.push.new.self.items (Put c.args.path c.in-Ok-Some.temporary c.args.before c.args.contents) c.push.ensures.items own.apart
          (none_of (is_first_at path) own.deeds.items none) (apart_from own.deeds.items temporary apart.others) (apart_path path temporary apart.own);
      avoids = λ avoided is. pushed_apart (is_ok c.push.result) own.deeds.items c.push.new.self.items (Put c.args.path c.in-Ok-Some.temporary c.args.before c.args.contents)
          avoided.now c.push.ensures.items (own.avoids avoided is) (apart_path avoided.now temporary (apart.free avoided is));
    }

pub returns-clause-put : goal.returns-clause-put
returns-clause-put g c =
    let named : IsTemporaryOf (string_bytes c.args.path) (string_bytes c.in-Ok-Some.temporary) = search rules in
    record { deed = Put c.args.path c.in-Ok-Some.temporary c.args.before c.args.contents; adds = c.in-Ok.ensures.items; puts = (refl, refl, refl, named) }
