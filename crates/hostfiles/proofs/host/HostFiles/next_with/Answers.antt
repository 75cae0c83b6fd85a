use Rattle.std.proofs.Common.{◌≡◌, ◌∙◌, option_copied}
use Rattle.keymaps.specs.Walks.{IsInNeither}
use Rattle.hostfiles.specs.Files.{is_listed}
use Rattle.hostfiles.proofs.DeleteLemmas.{unlisted}
use Rattle.hostfiles.proofs.KeyWalk.{passed_none, passed_least, passed_more, passed_end}
use Rattle.hostfiles.proofs.host.HostFiles.next_with.Goals as goal

pub loop-next-init : goal.loop-next-init
loop-next-init c = rw c.key_if_any-low.ensures (passed_none (is_listed c.args.self.now c.args.changes.now.journal.entries) (option_copied c.args.after))

pub returns-in-Some-name_of : goal.returns-in-Some-name_of
returns-in-Some-name_of c =
    let host = c.args.self.now in
    let own = c.args.changes.now.journal.entries in
    let name : c.in-Some-name_of.name ≡ c.in-Some.next.key = c.in-Some-name_of.ensures.name ∙ c.from_search.ensures.key in
    rw name (passed_least (is_listed host own) (IsInNeither host own) (unlisted host own) _ _ c.loop-next.invariant _ (rw c.files.ensures at c.in-Some.ensures.least)
    (rw (c.from_search.ensures.host, c.from_search.ensures.journal, c.from_search.ensures.key) at c.in-Some-name_of.ensures.some))

pub loop-next-preserved : goal.loop-next-preserved
loop-next-preserved c =
    let host = c.args.self.now in
    let own = c.args.changes.now.journal.entries in
    passed_more (is_listed host own) (IsInNeither host own) (unlisted host own) _ _ c.loop-next.invariant _ (rw c.files.ensures at c.in-Some.ensures.least)
    (rw (c.from_search.ensures.host, c.from_search.ensures.journal, c.from_search.ensures.key) at c.in_default-name_of.ensures.none)

pub returns : goal.returns
returns c =
    let host = c.args.self.now in
    let own = c.args.changes.now.journal.entries in
    passed_end (is_listed host own) (IsInNeither host own) (unlisted host own) _ _ c.loop-next.invariant (rw c.files.ensures at c.in_default.ensures.least)
