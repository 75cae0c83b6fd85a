use Rattle.trace_filters.proofs.ChosenLemmas.{names_of}
use Rattle.trace_filters.proofs.filters.call_names.Goals as goal

pub returns : goal.returns
returns c =
    names_of _ c.args.key.now c.regs.ensures c.drive.ensures c.block_at-block.ensures c.dr.ensures c.argument_of.ensures c.drive_of_byte-drive.ensures c.names_file.ensures
