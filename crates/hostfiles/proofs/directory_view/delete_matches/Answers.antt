use Rattle.std.proofs.Common.{sym, ap, ◌∙◌, ◌≡◌, ◌+◌, ◌&&◌, true, false, arith, Result, Ok, Err, OnErr}
use Rattle.std.specs.FinMap.{len}
use Rattle.keymaps.proofs.Left.{left_all}
use Rattle.directory.specs.Entries.{is_match}
use Rattle.hostfiles.specs.Files.{has}
use Rattle.hostfiles.proofs.DeleteLemmas.{deleted_start, counted_start, deleted_past, deleted_here, counted_here, counted_end}
use Rattle.hostfiles.proofs.directory_view.delete_matches.Goals as goal

pub loop-next-init : goal.loop-next-init
loop-next-init c =
    let hosts : c.len.result ≡ len c.args.host.now = c.len.ensures.len ∙ ap len c.files.ensures in
    let owned : c.len-2.result ≡ len c.args.journal.now.entries = c.len-2.ensures.len in
    let all_hosts = left_all c.args.host.now in
    let all_owned = left_all c.args.journal.now.entries in
    (omega arith, counted_start c.args.host.now c.args.journal.now.entries c.args.pattern.now, deleted_start c.args.host.now c.args.journal.now.entries c.args.pattern.now)

pub loop-next-preserved-in_ok-with_deletion : goal.loop-next-preserved-in_ok-with_deletion
loop-next-preserved-in_ok-with_deletion c =
    let least = rw c.files-in-loop-next.ensures at c.in-Some.ensures.least in
    let fewer = rw c.files-in-loop-next.ensures at c.in-Some.ensures.fewer in
    let bound = c.loop-next.invariant.0 in
    let found : (is_match c.args.pattern.now c.from_search.result.key && has c.from_search.result.host.now c.from_search.result.journal.now.entries c.from_search.result.key) ≡ true = sym c.is_deleted.ensures ∙ c.if-is_deleted.true in
    let matched = rw (c.from_search.ensures.host, c.from_search.ensures.journal, c.from_search.ensures.key) at found in (
      omega arith,
      counted_here c.args.host.now c.args.journal.now.entries c.args.pattern.now c.loop-next.after c.in-Some.next.key c.loop-next.count true least matched c.loop-next.invariant.1,
      deleted_here c.args.host.now c.args.journal.now.entries c.args.pattern.now c.loop-next.after c.in-Some.next.key _ _ least matched c.loop-next.invariant.2 c.in_ok-with_deletion.ensures,
    )

pub loop-next-preserved : goal.loop-next-preserved
loop-next-preserved c =
    let least = rw c.files-in-loop-next.ensures at c.in-Some.ensures.least in
    let fewer = rw c.files-in-loop-next.ensures at c.in-Some.ensures.fewer in
    let bound = c.loop-next.invariant.0 in
    let found : (is_match c.args.pattern.now c.from_search.result.key && has c.from_search.result.host.now c.from_search.result.journal.now.entries c.from_search.result.key) ≡ false = sym c.is_deleted.ensures ∙ c.if-is_deleted.false in
    let unmatched = rw (c.from_search.ensures.host, c.from_search.ensures.journal, c.from_search.ensures.key) at found in
    let same : c.loop-next.count + 0 ≡ c.loop-next.count = omega arith in (
      omega arith,
      rw same at (counted_here c.args.host.now c.args.journal.now.entries c.args.pattern.now c.loop-next.after c.in-Some.next.key c.loop-next.count false least unmatched c.loop-next.invariant.1),
      deleted_past c.args.host.now c.args.journal.now.entries c.args.pattern.now c.loop-next.after c.in-Some.next.key _ least unmatched c.loop-next.invariant.2,
    )

on_err : {T E P : Type 0} (r : Result T E) → P → OnErr r P
on_err (Ok x) h = tt
on_err (Err e) h = h

-- A file matches if one was to be deleted.
pub returns-in_err-with_deletion-clause-refused : goal.returns-in_err-with_deletion-clause-refused
returns-in_err-with_deletion-clause-refused c =
    let least = rw c.files-in-loop-next.ensures at c.in-Some.ensures.least in
    let found : (is_match c.args.pattern.now c.from_search.result.key && has c.from_search.result.host.now c.from_search.result.journal.now.entries c.from_search.result.key) ≡ true = sym c.is_deleted.ensures ∙ c.if-is_deleted.true in
    let matched = rw (c.from_search.ensures.host, c.from_search.ensures.journal, c.from_search.ensures.key) at found in
    let counted = counted_here c.args.host.now c.args.journal.now.entries c.args.pattern.now c.loop-next.after c.in-Some.next.key c.loop-next.count true least matched c.loop-next.invariant.1 in
    on_err c.from_residual.result (omega (arith, counted))

pub returns-in-Some-left-clause-count : goal.returns-in-Some-left-clause-count
returns-in-Some-left-clause-count c = counted_end c.args.host.now c.args.journal.now.entries c.args.pattern.now c.loop-next.after c.loop-next.count (rw c.files-in-loop-next.ensures at c.in_default.ensures.least) c.loop-next.invariant.1

pub returns-in_default-left-clause-count : goal.returns-in_default-left-clause-count
returns-in_default-left-clause-count c = counted_end c.args.host.now c.args.journal.now.entries c.args.pattern.now c.loop-next.after c.loop-next.count (rw c.files-in-loop-next.ensures at c.in_default.ensures.least) c.loop-next.invariant.1
