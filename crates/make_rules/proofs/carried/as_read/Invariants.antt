use Rattle.std.proofs.Common.{◌≡◌, drop, false}
use Rattle.make_rules.specs.Carried.{rest_read}
use Rattle.make_rules.proofs.carried.as_read.Given as goal

-- The first bytes are taken away.
abbrev pub invariant-loop-index : goal.invariant-loop-index
invariant-loop-index l = rest_read l.after (drop l.index l.path) ≡ rest_read false l.path
