use Rattle.std.proofs.Common.{◌≡◌, ◌∙◌, ap, arith, codes, false, is_some, sym, true}
use Rattle.std.specs.Str.{bytes_eq}
use Rattle.std.proofs.lemmas.Str.Pattern.{strip_prefix_char}
use Rattle.folders.proofs.SplitLemmas.{left_by, not_left}
use Rattle.folders.proofs.folder_names.is_left_name.Goals as goal

pub returns-in_default : goal.returns-in_default
returns-in_default c =
    sym (not_left c.args.name.now (rw c.in_default.is at (strip_prefix_char 46 c.args.name.now c.strip_prefix.result c.strip_prefix.ensures.cases (omega arith))))

pub returns-then-eq : goal.returns-then-eq
returns-then-eq c =
    let dot = rw c.in-Some.is at (strip_prefix_char 46 c.args.name.now c.strip_prefix.result c.strip_prefix.ensures.cases (omega arith)) in
    let parts = left_by c.args.name.now c.in-Some.rest.now c.before_number.result.now c.rsplit_once.result dot c.before_number.ensures c.rsplit_once.ensures.cases in
    let same : bytes_eq c.in-Some-rsplit_once.last.now (codes "new") ≡ true = sym c.eq.ensures ∙ c.if-eq.true in
    rw (parts, c.in-Some-rsplit_once.is, same) (c.is_some.ensures ∙ ap is_some c.name_in_folder.ensures.key)

pub returns-else-eq : goal.returns-else-eq
returns-else-eq c =
    let dot = rw c.in-Some.is at (strip_prefix_char 46 c.args.name.now c.strip_prefix.result c.strip_prefix.ensures.cases (omega arith)) in
    let parts = left_by c.args.name.now c.in-Some.rest.now c.before_number.result.now c.rsplit_once.result dot c.before_number.ensures c.rsplit_once.ensures.cases in
    let other : bytes_eq c.in-Some-rsplit_once.last.now (codes "new") ≡ false = sym c.eq.ensures ∙ c.if-eq.false in
    rw (parts, c.in-Some-rsplit_once.is, other) c.if-eq.false

pub returns-in-None : goal.returns-in-None
returns-in-None c =
    let dot = rw c.in-Some.is at (strip_prefix_char 46 c.args.name.now c.strip_prefix.result c.strip_prefix.ensures.cases (omega arith)) in
    rw (left_by c.args.name.now c.in-Some.rest.now c.before_number.result.now c.rsplit_once.result dot c.before_number.ensures c.rsplit_once.ensures.cases, c.in-None.is)
