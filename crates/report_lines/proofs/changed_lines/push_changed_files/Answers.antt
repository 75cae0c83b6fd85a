use Rattle.std.proofs.Common.{List, ◌∙◌, Some, ap, map, sym}
use Rattle.std.specs.List.{concat}
use Rattle.hostfiles.specs.Names.{Key}
use Rattle.hostfiles.proofs.ChangedWalk.{changed_next, changed_none}
use Rattle.report_lines.specs.ChangedLines.{line_of_file}
use Rattle.streams.specs.Pushing.{more}
use Rattle.streams.proofs.Pushes.{all_pushed, part_pushed}
use Rattle.report_lines.proofs.ReportPieces.{same_contents, own_line, lines_laid, parts_above, parts_begin, fewer_keys}
use Rattle.report_lines.proofs.changed_lines.push_changed_files.Goals as goal

pub loop-changed-init : goal.loop-changed-init
loop-changed-init g c =
    let own = own_line c.args.filter c.args.host.now c.args.journal.now.entries in
    ap (more (g.X.Text.pushed c.args.text.now)) (parts_begin own c.args.host.now c.args.journal.now.entries)

pub loop-changed-smaller : goal.loop-changed-smaller
loop-changed-smaller g c =
    let host = c.args.host.now in
    let own = c.args.journal.now.entries in
    fewer_keys host own c.loop-changed.after c.in-Some.changed.name (changed_next host own c.loop-changed.after c.in-Some.changed.name (rw c.as_ref.ensures.value at c.in-Some.ensures.least))

pub loop-changed-preserved : goal.loop-changed-preserved
loop-changed-preserved g c =
    let host = c.args.host.now in
    let own = c.args.journal.now.entries in
    let name = c.in-Some.changed.name in
    let part = own_line c.args.filter host own in
    let split = changed_next host own c.loop-changed.after name (rw c.as_ref.ensures.value at c.in-Some.ensures.least) in
    let line = ap (line_of_file c.args.filter name) (same_contents (ap (λ h. h.now) c.in-Some.ensures.host) (ap (λ j. j.now.entries) c.in-Some.ensures.journal) c.in-Some.changed.named) in
    part_pushed _ _ _ (part name) (parts_above part host own (Some name)) _ (c.push_filtered.ensures ∙ ap (more (g.X.Text.pushed c.loop-changed.text)) line)
    (sym (ap (λ (ks : List Key). concat (map part ks)) split)) c.loop-changed.invariant

pub returns : goal.returns
returns g c =
    let host = c.args.host.now in
    let own = c.args.journal.now.entries in
    let part = own_line c.args.filter host own in
    let none = changed_none host own c.loop-changed.after (rw c.as_ref.ensures.value at c.in_default.ensures.least) in
    all_pushed _ _ _ (ap (λ (ks : List Key). concat (map part ks)) none) (c.loop-changed.invariant ∙ ap (more (g.X.Text.pushed c.args.text.now)) (lines_laid c.args.filter host own))
