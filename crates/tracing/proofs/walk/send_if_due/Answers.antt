use Rattle.tracing.specs.Trace.{console_text}
use Rattle.tracing.proofs.TextPieces.{more_pushed}
use Rattle.tracing.proofs.walk.send_if_due.Goals as goal

pub returns-clause-console : goal.returns-clause-console
returns-clause-console g c =
    λ p e. more_pushed (console_text c.args.run.now.session) c.text.result.now c.args.sent.bytes c.text.ensures.begins p _ _ c.push_more-bytes.result
    c.push_more-bytes.ensures.count e c.push_more-bytes.ensures.console
