use Rattle.std.proofs.Common.{◌≡◌, ◌∙◌, true, is_some, rules}
use Rattle.std.proofs.lemmas.Result.{IfOk-weaker}
use Rattle.folders.proofs.EntryLemmas.{valid_on}
use Rattle.folders.specs.FolderNames.{key_in}
use Rattle.disks.proofs.reports.may_be_written.Goals as goal

pub returns-in-Some-clause-allowed : goal.returns-in-Some-clause-allowed
returns-in-Some-clause-allowed g c =
    let name = c.in-Some.name.now in
    let valid : is_some (key_in 0 name) ≡ true = search rules in
    IfOk-weaker c.is_written_to.result _ _ (λ is places same. record { places = places same; name = name; is = c.in-Some.ensures; valid = λ drive. valid_on drive name ∙ valid }) c.is_written_to.ensures.places
