use Rattle.std.proofs.Common.{◌≡◌, drop}
use Rattle.make_rules.specs.Carried.{fits_call}
use Rattle.make_rules.proofs.carried.fits_call.Given as goal

-- The first bytes are passed.
abbrev pub invariant-loop-byte : goal.invariant-loop-byte
invariant-loop-byte l = fits_call (drop l.byte-index l.path) ≡ fits_call l.path
