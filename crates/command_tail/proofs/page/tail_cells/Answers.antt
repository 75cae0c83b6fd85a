use Rattle.std.proofs.Common.{rules, ◌<◌, length}
use Rattle.command_tail.proofs.Pages.{tail_made}
use Rattle.command_tail.proofs.page.tail_cells.Goals as goal

pub returns : goal.returns
returns c =
    let some : 0 < length c.args.tail.now = search rules in
    tail_made c.args.tail.now c.write.new.cells some (search rules) c.write.ensures
