use Rattle.std.proofs.Common.{◌≡◌, ◌+◌, ◌-◌, ℕ, subst, arith}
use Rattle.i8080.specs.Moves.{with_pc}
use Rattle.known_run.specs.KnownRun.{RunsKnown}
use Rattle.known_run.proofs.KnownRunLemmas.{runs_on}
use Rattle.known_run.proofs.run.run_known.Goals as goal

pub loop-count-preserved : goal.loop-count-preserved
loop-count-preserved g c =
    let memory = g.M.Access.memory in
    let limit = g.M.Access.opcode_limit in
    let regs = c.args.regs.now in
    let bus = c.args.bus.now in
    let i = c.loop-count.invariant in
    let common = c.run_common-common in
    let rare = c.run_rare-rare in
    let done = c.args.steps - c.loop-count.left in
    let middle = with_pc common.result.pc common.new.regs in
    let end = with_pc rare.result.pc rare.new.regs in
    let ran = runs_on memory limit done common.result.done regs bus (with_pc c.loop-count.pc c.loop-count.regs) c.loop-count.bus middle common.new.bus i.ran common.ensures.ran in
    let on = runs_on memory limit (done + common.result.done) rare.result.done regs bus middle common.new.bus end rare.new.bus ran rare.ensures.ran in
    record {
      within = omega (arith, i.within);
      ran = subst (λ (j : ℕ). RunsKnown memory limit j regs bus end rare.new.bus)
          (let e : done + common.result.done + rare.result.done ≡ c.args.steps - (c.loop-count.left - common.result.done - rare.result.done) = omega (arith, i.within, common.ensures.within, rare.ensures.within) in e) on;
    }
