use Rattle.folders.proofs.WrittenFiles.{written}
use Rattle.cpmrun.proofs.Carrying.{appended, writes_elsewhere}
use Rattle.cpmrun.proofs.reports.write_into.Goals as goal

pub returns-clause-bytes : goal.returns-clause-bytes
returns-clause-bytes g c =
    let part = appended c.write_all.result _ _ _ c.write_all.ensures in
    writes_elsewhere c.args.path.now part.0 (g.S.FileSystem.files c.args.system.now) (g.S.FileSystem.files c.close.new.self) c.requires
    (written c.args.path.now (g.S.FileSystem.files c.args.system.now) (g.S.FileSystem.files c.create.new.self) (g.S.FileSystem.files c.close.new.self)
    (g.S.Output.Writer.output c.in_ok-output.output) (g.S.Output.Writer.output c.write_all.new.writer) part.0 c.in_ok-output.ensures.opened c.in_ok-output.ensures.made c.in_ok-output.ensures.special part.1 c.close.ensures.written)
