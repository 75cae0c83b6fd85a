use Rattle.std.proofs.Common.{◌≡◌, sym, ap, ◌∙◌, option_copied}
use Rattle.keymaps.specs.Walks.{IsAbsent}
use Rattle.hostfiles.specs.Changed.{is_changed_name}
use Rattle.hostfiles.proofs.ChangedWalk.{unchanged}
use Rattle.hostfiles.proofs.KeyWalk.{passed_none, passed_least, passed_more, passed_end}
use Rattle.hostfiles.proofs.names.next_changed.Goals as goal

pub loop-key-init : goal.loop-key-init
loop-key-init c = rw c.key_if_any-low.ensures (passed_none (is_changed_name c.args.host.now c.args.journal.now.entries) (option_copied c.args.after))

pub returns-in-Some-changed_file-clause-least : goal.returns-in-Some-changed_file-clause-least
returns-in-Some-changed_file-clause-least c =
    let host = c.args.host.now in
    let own = c.args.journal.now.entries in
    let changed = c.in-Some-changed_file.changed in
    let name : changed.name ≡ c.in-Some.key.now = sym changed.named ∙ ap (λ f. f.key) c.in-Some-changed_file.ensures.file ∙ c.with_entry-file.ensures.key in
    rw name (passed_least (is_changed_name host own) (IsAbsent own) (unchanged host own) _ _ c.loop-key.invariant _ c.in-Some.ensures.least
    (rw (c.with_entry-file.ensures.host, c.with_entry-file.ensures.journal, c.with_entry-file.ensures.key) at c.in-Some-changed_file.ensures.some))

pub loop-key-preserved : goal.loop-key-preserved
loop-key-preserved c =
    let host = c.args.host.now in
    let own = c.args.journal.now.entries in
    passed_more (is_changed_name host own) (IsAbsent own) (unchanged host own) _ _ c.loop-key.invariant _ c.in-Some.ensures.least
    (rw (c.with_entry-file.ensures.host, c.with_entry-file.ensures.journal, c.with_entry-file.ensures.key) at c.in_default-changed_file.ensures.none)

pub returns-clause-least : goal.returns-clause-least
returns-clause-least c =
    let host = c.args.host.now in
    let own = c.args.journal.now.entries in
    passed_end (is_changed_name host own) (IsAbsent own) (unchanged host own) _ _ c.loop-key.invariant c.in_default.ensures.least
