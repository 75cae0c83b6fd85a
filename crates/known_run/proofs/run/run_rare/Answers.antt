use Rattle.std.proofs.Common.{ℕ, Bool, Ok, refl, subst}
use Rattle.std.specs.declared.result.Result.{Result}
use Rattle.i8080.specs.Moves.{MovesByte, with_pc}
use Rattle.known_run.proofs.KnownRunLemmas.{goes_once_more}
use Rattle.known_run.proofs.run.run_rare.Goals as goal

pub returns-in-Some-Ok-clause-ran : goal.returns-in-Some-Ok-clause-ran
returns-in-Some-Ok-clause-ran g c =
    let memory = g.M.Access.memory in
    let x = with_pc c.args.pc c.args.regs.now in
    let bus = c.args.bus.now in
    let ready = g.M.Access.is_ready bus in
    let byte = c.opcode-byte.result in
    let e = c.opcode-byte.ensures in
    let moved = subst (λ (z : Result ℕ g.row.M-Refusal.Denot). MovesByte {X = g.row.M-Refusal.Denot} g.M.Access.is_sure byte c.args.pc c.args.regs.now (memory bus) ready z c.rare.new.regs (memory c.rare.new.bus)) c.in-Some-Ok.field-0-is c.in-Some-Ok.ensures.executed in
    let quiet = subst (λ (s : Bool). MovesByte {X = g.row.M-Refusal.Denot} s byte c.args.pc c.args.regs.now (memory bus) ready (Ok c.in-Some-Ok.to) c.rare.new.regs (memory c.rare.new.bus)) c.requires moved in
    goes_once_more memory g.M.Access.opcode_limit 0 x bus x bus (with_pc c.in-Some-Ok.to c.rare.new.regs) c.rare.new.bus (refl, refl) ready byte e.value e.unlooked e.low quiet
