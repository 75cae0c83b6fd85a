use Rattle.std.proofs.Common.{◌≡◌, ◌∙◌}
use Rattle.std.proofs.lemmas.Result.{err_from_is_err_and}
use Rattle.folders.proofs.FilesLemmas.{same_files}
use Rattle.loading.proofs.Refusing.{badly_typed, program_unread, script_unread, well_typed}
use Rattle.loading.proofs.loading.read_inputs.Goals as goal

pub returns-clause-inputs : goal.returns-clause-inputs
returns-clause-inputs g c =
    let tail : c.in_ok-tail.tail.items ≡ c.args.words.now.tail.now = c.in_ok-tail.ensures.items_if_clones_equal (λ x y e. e) ∙ c.as_bytes.ensures.value in
    record {
      program = c.in_ok-program.ensures.program;
      tail = tail;
      script = rw (same_files c.in_ok-program.ensures.unchanged) at c.in_ok-script.ensures.script;
      well_typed = well_typed c.args.words.now _ c.in_ok-typed.ensures.script;
    }

pub returns-in_err-script-clause-fault : goal.returns-in_err-script-clause-fault
returns-in_err-script-clause-fault g c =
    let left = err_from_is_err_and c.from_residual-in_err-script.result c.from_residual-in_err-script.ensures.1 in
    rw (left.1, left.2) (script_unread (g.S.FileSystem.files c.args.system.now) c.args.words.now c.in_ok-program.program.items
    c.in_err-script.field-0.0 c.in_err-script.ensures.fault.0 c.in_ok-program.ensures.program c.in_err-script.ensures.fault.1)

pub returns-in_err-typed-clause-fault : goal.returns-in_err-typed-clause-fault
returns-in_err-typed-clause-fault g c =
    let left = err_from_is_err_and c.from_residual-in_err-typed.result c.from_residual-in_err-typed.ensures.1 in
    rw (left.1, left.2) (badly_typed (g.S.FileSystem.files c.args.system.now) c.args.words.now c.in_err-typed.field-0.0 c.in_err-typed.ensures.fault)

pub returns-in_err-program-clause-fault : goal.returns-in_err-program-clause-fault
returns-in_err-program-clause-fault g c =
    let left = err_from_is_err_and c.from_residual-in_err-program.result c.from_residual-in_err-program.ensures.1 in
    rw (left.1, left.2) (program_unread (g.S.FileSystem.files c.args.system.now) c.args.words.now c.in_err-program.field-0.0
    (well_typed c.args.words.now _ c.in_ok-typed.ensures.script) c.in_err-program.ensures.fault)
