use Rattle.std.proofs.Common.{◌≡◌, ◌≤◌, ◌-◌}
use Rattle.records.specs.Records.{zeros_at}
use Rattle.records.proofs.records.Records.with_zeros.Given as goal

abbrev pub invariant-loop-number : goal.invariant-loop-number
invariant-loop-number l = (l.from ≤ l.number) × (l.records ≡ zeros_at l.self l.from (l.number - l.from))
