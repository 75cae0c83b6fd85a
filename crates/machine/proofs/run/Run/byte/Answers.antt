use Rattle.std.proofs.Common.{◌∙◌}
use Rattle.machine.proofs.PlainViews.{plain_byte}
use Rattle.machine.proofs.run.Run.byte.Goals as goal

pub returns : goal.returns
returns c = rw c.session.ensures at c.byte.ensures ∙ plain_byte c.args.self.now _ c.state.ensures.session c.state.ensures.at c.args.at c.ranges.at.fits
