use Rattle.std.proofs.Common.{inl, refl}
use Rattle.dependency_lines.specs.Listing.{listing}
use Rattle.dependency_command.proofs.command_line.write_listing.Goals as goal

pub returns-clause-fault : goal.returns-clause-fault
returns-clause-fault g c =
    let d = c.in-Ok.dependencies in
    inl (
      refl,
      (
        listing c.args.joining c.args.session.now d.looks d.cause,
        record { looks = d.looks; steps = d.steps; cause = d.cause; are = c.in-Ok.ensures; is = refl },
        c.in-Err.ensures,
      ),
    )
