use Rattle.std.proofs.Common.{◌+◌, ◌-◌, ◌∙◌, refl, sym, arith}
use Rattle.dependencies.specs.Bios.{is_bios_look}
use Rattle.dependencies.proofs.BiosLemmas.{found_here, found_later, found_none}
use Rattle.dependencies.proofs.bios.bios_look.Goals as goal

pub loop-offset-init : goal.loop-offset-init
loop-offset-init c = refl

pub returns-then-is_bios_look : goal.returns-then-is_bios_look
returns-then-is_bios_look c =
    sym (found_here (is_bios_look c.args.run.now.session.now) (65280 + c.loop-offset.offset) (256 - c.loop-offset.offset) (255 - c.loop-offset.offset)
    (omega (arith, c.loop-offset-test.true)) (sym c.is_bios_look.ensures ∙ c.if-is_bios_look.true)) ∙ c.loop-offset.invariant

pub loop-offset-preserved : goal.loop-offset-preserved
loop-offset-preserved c =
    found_later (is_bios_look c.args.run.now.session.now) (65280 + c.loop-offset.offset) _ (256 - c.loop-offset.offset) _
    (omega arith) (omega (arith, c.loop-offset-test.true)) (sym c.is_bios_look.ensures ∙ c.if-is_bios_look.false) ∙ c.loop-offset.invariant

pub returns : goal.returns
returns c =
    found_none (is_bios_look c.args.run.now.session.now) (65280 + c.loop-offset.offset) (256 - c.loop-offset.offset)
    (omega (arith, c.loop-offset-test.false, c.loop-offset.auto.offset-end)) ∙ c.loop-offset.invariant
