use Rattle.std.proofs.Common.{◌≡◌, ◌∙◌, false, sym, true}
use Rattle.folders.specs.LeftNames.{is_number}
use Rattle.folders.proofs.SplitLemmas.{split}
use Rattle.folders.proofs.folder_names.before_number.Goals as goal

pub returns-in-Some : goal.returns-in-Some
returns-in-Some c =
    let number : is_number c.in-Some.last.now ≡ true = sym c.is_number.ensures ∙ c.if-is_number.true in
    rw (split c.args.name.now c.rsplit_once.result c.rsplit_once.ensures.cases, c.in-Some.is, number)

pub returns-in_default : goal.returns-in_default
returns-in_default c =
    let number : is_number c.in-Some.last.now ≡ false = sym c.is_number.ensures ∙ c.if-is_number.false in
    rw (split c.args.name.now c.rsplit_once.result c.rsplit_once.ensures.cases, c.in-Some.is, number)

pub returns-in_default-2 : goal.returns-in_default-2
returns-in_default-2 c = rw (split c.args.name.now c.rsplit_once.result c.rsplit_once.ensures.cases, c.in_default.is)
