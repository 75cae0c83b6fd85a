use Rattle.std.proofs.Common.{Some, None}
use Rattle.keymaps.proofs.Left.{fewer_past}
use Rattle.keymaps.proofs.map.KeyMap.next_key_value.Goals as goal

pub returns-in-None-clause-fewer : goal.returns-in-None-clause-fewer
returns-in-None-clause-fewer g c = rw c.in-None.is (fewer_past c.args.self.now None c.first.result c.first.ensures.there c.first.ensures.least)

pub returns-in-Some-clause-fewer : goal.returns-in-Some-clause-fewer
returns-in-Some-clause-fewer g c = rw c.in-Some.is (fewer_past c.args.self.now (Some c.in-Some.low) c.above.result c.above.ensures.there c.above.ensures.least)
