use Rattle.std.proofs.Common.{◌∙◌, ap, subst}
use Rattle.std.proofs.lemmas.Result.{on_ok_weaker}
use Rattle.hostfiles.specs.Hosts.{records_in}
use Rattle.std.specs.FinMap.{insert}
use Rattle.folders.specs.FileSystem.{ReadsFile}
use Rattle.folders.proofs.ListingLemmas.{other_stays, now_there}
use Rattle.folders.proofs.FaultLemmas.{set_fails}
use Rattle.folders.proofs.ReadLemmas.{put_in}
use Rattle.folders.proofs.reading.read_one.Goals as goal

pub returns-in-Ok-clause-others : goal.returns-in-Ok-clause-others
returns-in-Ok-clause-others g c = other_stays _ _ c.args.name _ c.set.result c.set.ensures.ok c.set.ensures.err

pub returns-in-Ok-clause-there : goal.returns-in-Ok-clause-there
returns-in-Ok-clause-there g c = now_there _ _ c.args.name _ c.set.result c.set.ensures.ok

pub returns-in-Ok-clause-read : goal.returns-in-Ok-clause-read
returns-in-Ok-clause-read g c =
    let files = (g.S.FileSystem.files c.args.system.now).bytes in
    let bytes = c.in-Ok.bytes.items in
    on_ok_weaker c.set.result
    (λ put. put_in files _ bytes c.args.files.now c.args.name c.set.new.files
    (subst (λ p. ReadsFile files p 8388609 bytes) (c.as_str.ensures.value ∙ c.in_ok-path.ensures) c.in-Ok.ensures.reads)
    (put ∙ ap (λ b. insert c.args.files.now c.args.name (records_in b)) c.as_slice.ensures.value))
    c.set.ensures.ok

pub returns-in-Ok-clause-fault : goal.returns-in-Ok-clause-fault
returns-in-Ok-clause-fault g c =
    let bytes = c.in-Ok.bytes.items in
    set_fails (g.S.FileSystem.files c.args.system.now).bytes _ c.args.files.now c.args.name bytes c.set.result
    (subst (λ p. ReadsFile (g.S.FileSystem.files c.args.system.now).bytes p 8388609 bytes) (c.as_str.ensures.value ∙ c.in_ok-path.ensures) c.in-Ok.ensures.reads)
    (rw c.as_slice.ensures.value at c.set.ensures.refusal)
