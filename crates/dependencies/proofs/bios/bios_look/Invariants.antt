use Rattle.std.proofs.Common.{◌≡◌, ◌+◌, ◌-◌}
use Rattle.dependencies.specs.Bios.{bios_look, first_from, is_bios_look}
use Rattle.dependencies.proofs.bios.bios_look.Given as goal

abbrev pub invariant-loop-offset : goal.invariant-loop-offset
invariant-loop-offset l = first_from (is_bios_look l.run.session.now) (65280 + l.offset) (256 - l.offset) ≡ bios_look l.run.session.now
