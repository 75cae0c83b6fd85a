use Rattle.std.proofs.Common.{◌≡◌, ◌++◌, ◌∙◌, List, None, Some, ap, append-nil, map, refl, sym}
use Rattle.std.specs.FinMap.{contains_key}
use Rattle.std.specs.List.{concat}
use Rattle.std.specs.Prelude.{[], unwrap_or}
use Rattle.hostfiles.specs.Changed.{changed_names}
use Rattle.hostfiles.specs.FileView.{is_view_there, view_own}
use Rattle.hostfiles.specs.Files.{files}
use Rattle.hostfiles.proofs.ChangedWalk.{changed_next, changed_none, keys_above, keys_above_none}
use Rattle.machine.proofs.ChangedFileLemmas.{changed_keys_laid, told_laid}
use Rattle.report_lines.proofs.ReportPieces.{fewer_keys, same_contents}
use Rattle.one_run.specs.ChangedList.{changed_at, path_for, changed_by}
use Rattle.one_run.specs.declared.changed.Entry.{Entry}
use Rattle.one_run.proofs.Walking.{one_more, there_at}
use Rattle.one_run.proofs.changed.changed_entries.Goals as goal

pub loop-changed-init : goal.loop-changed-init
loop-changed-init c =
    let host = c.args.host.now in
    let own = c.args.journal.now.entries in
    ap (λ (es : List Entry). map changed_by es ++ map (changed_at c.args.places.now host (files host own)) (keys_above (changed_names host own) None)) c.new-entries.ensures.items
    ∙ ap (map (changed_at c.args.places.now host (files host own))) (keys_above_none (changed_names host own) ∙ sym (changed_keys_laid host own))

pub loop-changed-smaller : goal.loop-changed-smaller
loop-changed-smaller c =
    let host = c.args.host.now in
    let own = c.args.journal.now.entries in
    fewer_keys host own c.loop-changed.after c.in-Some.changed.name (changed_next host own c.loop-changed.after c.in-Some.changed.name (rw c.as_ref.ensures.value at c.in-Some.ensures.least))

pub loop-changed-preserved : goal.loop-changed-preserved
loop-changed-preserved c =
    let p = c.args.places.now in
    let host = c.args.host.now in
    let own = c.args.journal.now.entries in
    let name = c.in-Some.changed.name in
    let file = c.in-Some.changed.file in
    let split = changed_next host own c.loop-changed.after name (rw c.as_ref.ensures.value at c.in-Some.ensures.least) in
    let same_host : file.host.now ≡ host = ap (λ h. h.now) c.in-Some.ensures.host in
    let same_own : view_own file ≡ own = ap (λ j. j.now.entries) c.in-Some.ensures.journal in
    let there : contains_key (files host own) name ≡ is_view_there file = there_at same_host same_own c.in-Some.changed.named refl in
    let told = same_contents same_host same_own c.in-Some.changed.named ∙ sym (told_laid host own name) in
    let path = c.in_ok-path.ensures ∙ ap (λ b. path_for p b name) (c.is_there.ensures ∙ sym there) in
    let same : changed_by (record { name = name; file = file; before = c.before_of.result; path = c.in_ok-path.path }) ≡ changed_at p host (files host own) name =
    λ i. record { key = name; there = sym there i; bytes = concat (unwrap_or (told i) []); expected = c.before_of.ensures i; path = path i } in
    ap (λ (es : List Entry). map changed_by es ++ map (changed_at p host (files host own)) (keys_above (changed_names host own) (Some name))) c.in_ok-push.ensures.items
    ∙ one_more changed_by (changed_at p host (files host own)) c.loop-changed.entries.items _ name (keys_above (changed_names host own) c.loop-changed.after)
    (keys_above (changed_names host own) (Some name)) _ same split c.loop-changed.invariant

pub returns : goal.returns
returns c =
    let host = c.args.host.now in
    let own = c.args.journal.now.entries in
    let none = changed_none host own c.loop-changed.after (rw c.as_ref.ensures.value at c.in_default.ensures.least) in
    sym (append-nil (map changed_by c.loop-changed.entries.items)) ∙ ap (λ ks. map changed_by c.loop-changed.entries.items ++ map (changed_at c.args.places.now host (files host own)) ks) (sym none) ∙ c.loop-changed.invariant
