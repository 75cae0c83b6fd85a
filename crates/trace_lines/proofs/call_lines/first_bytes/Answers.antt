use Rattle.std.proofs.Common.{ℕ, take, ap, ◌∙◌}
use Rattle.std.proofs.lemmas.List.{take_min}
use Rattle.trace_lines.proofs.call_lines.first_bytes.Goals as goal

pub returns : goal.returns
returns c = ap (λ (n : ℕ). take n c.args.bytes.now) c.min.ensures ∙ take_min 64 c.args.bytes.now
