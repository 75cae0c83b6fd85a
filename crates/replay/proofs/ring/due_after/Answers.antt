use Rattle.std.proofs.Common.{◌+◌, ◌/◌, inl, arith}
use Rattle.std.proofs.Math.Nat.{mul-mod_left}
use Rattle.replay.proofs.DueLemmas.{no_multiple}
use Rattle.replay.proofs.ring.due_after.Goals as goal

pub returns-then-next-limit-clause-marked : goal.returns-then-next-limit-clause-marked
returns-then-next-limit-clause-marked c = inl (mul-mod_left (c.args.n / c.args.spacing + 1) c.args.spacing)

pub returns-then-next-limit-clause-first : goal.returns-then-next-limit-clause-first
returns-then-next-limit-clause-first c = λ k above below whole. no_multiple c.args.n c.args.spacing k above below whole

pub returns-else-next-limit-clause-first : goal.returns-else-next-limit-clause-first
returns-else-next-limit-clause-first c = λ k above below whole. no_multiple c.args.n c.args.spacing k above (omega arith) whole
