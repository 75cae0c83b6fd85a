use Rattle.std.proofs.Common.{ap, sym, ◌∙◌, ◌≡◌, ◌∷◌, ◌++◌, [], ◌+◌, length, map, arith, rules}
use Rattle.std.specs.List.{range_with_len}
use Rattle.std.proofs.lemmas.List.FromFn.{map-range_with_len_more, length-map-range_with_len}
use Rattle.hostfiles.specs.Hosts.{padded_record_at}
use Rattle.hostfiles.proofs.host.HostFile.new.Goals as goal

pub loop-i-preserved : goal.loop-i-preserved
loop-i-preserved c =
    let more : c.push.new.self.items ≡ c.loop-i.records.items ++ c.padded_record_at.result ∷ [] = search rules in
    let zero_on : 0 + c.loop-i.i ≡ c.loop-i.i = omega arith in
    more ∙ ap (λ xs. xs ++ c.padded_record_at.result ∷ []) c.loop-i.invariant ∙ ap (λ r. map (padded_record_at c.args.bytes.now) (range_with_len 0 c.loop-i.i) ++ r ∷ []) c.padded_record_at.ensures
    ∙ sym (map-range_with_len_more (padded_record_at c.args.bytes.now) 0 c.loop-i.i c.loop-i.i zero_on)

pub invariant_of-result : goal.invariant_of-result
invariant_of-result c =
    let count = ap length c.loop-i.invariant ∙ length-map-range_with_len (padded_record_at c.args.bytes.now) 0 c.loop-i.i in
    omega arith
