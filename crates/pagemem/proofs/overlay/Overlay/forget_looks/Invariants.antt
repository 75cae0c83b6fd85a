use Rattle.std.proofs.Common.{◌≡◌, length}
use Rattle.pagemem.specs.Overlay.{own_of, looks_of, is_ready_at}
use Rattle.pagemem.proofs.overlay.Overlay.forget_looks.Given as goal

abbrev pub invariant-loop : goal.invariant-loop
invariant-loop l = (own_of l.self ≡ own_of l.initial.self) × (is_ready_at l.self ≡ is_ready_at l.initial.self)

abbrev pub decreases-loop : goal.decreases-loop
decreases-loop l = length (looks_of l.self)
