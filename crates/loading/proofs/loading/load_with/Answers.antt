use Rattle.std.proofs.lemmas.Result.{err_from_is_err_and}
use Rattle.loading.proofs.Refusing.{folders_unread, loaded_of_words, refused_of_words}
use Rattle.loading.proofs.loading.load_with.Goals as goal

pub returns-clause-session : goal.returns-clause-session
returns-clause-session g c =
    loaded_of_words (g.S.FileSystem.files c.args.system.now) c.args.words.now c.args.inputs.program.items c.args.inputs.tail.items c.in_ok-read.read.files
    c.args.inputs.script.items c.in_ok-session.session c.requires.program c.requires.tail c.in_ok-read.ensures.files c.requires.script c.in_ok-session.ensures

pub returns-in_err-session-clause-fault : goal.returns-in_err-session-clause-fault
returns-in_err-session-clause-fault g c =
    let left = err_from_is_err_and c.from_residual-in_err-session.result c.from_residual-in_err-session.ensures.1 in
    let refused = refused_of_words (g.S.FileSystem.files c.args.system.now) c.args.words.now c.args.inputs.program.items c.in_ok-read.read.files
    c.args.inputs.script.items c.session_of.result c.requires.program c.in_ok-read.ensures.files c.requires.script (rw c.requires.tail at c.session_of.ensures) in
    rw (left.1, left.2) (rw c.in_err-session.was at refused)

pub returns-in_err-read-clause-fault : goal.returns-in_err-read-clause-fault
returns-in_err-read-clause-fault g c =
    let left = err_from_is_err_and c.from_residual.result c.from_residual.ensures.1 in
    rw (left.1, left.2) (folders_unread (g.S.FileSystem.files c.args.system.now) c.args.words.now c.args.inputs c.in_err-read.field-0.0 c.requires c.in_err-read.ensures.fault)
