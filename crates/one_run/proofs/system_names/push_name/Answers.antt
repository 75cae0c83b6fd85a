use Rattle.std.proofs.Common.{◌≡◌, ◌++◌, List, ℕ, Option, Some, None, ap, option_map, rules, sym, ◌∙◌}
use Rattle.std.specs.Option.{option_map_or}
use Rattle.streams.proofs.Pushes.{next_pushed}
use Rattle.one_run.specs.SystemNames.{name_of}
use Rattle.one_run.proofs.NameLemmas.{text_of}
use Rattle.one_run.proofs.system_names.push_name.Goals as goal

pub returns-in-Some : goal.returns-in-Some
returns-in-Some g c =
    let found : name_of c.args.key ≡ Some c.in-Some.name.now = sym c.name_in.ensures ∙ ap (option_map text_of) c.in-Some.is in
    let whole : List ℕ → List ℕ = λ name. name ++ c.args.after.now in
    next_pushed _ _ _ _ _ _ c.push.ensures.piece c.push-in-Some.ensures.piece
    (ap whole c.as_bytes.ensures.value ∙ sym (ap (λ (o : Option (List ℕ)). option_map_or whole o c.args.other.now) found))

pub returns-in_default : goal.returns-in_default
returns-in_default g c =
    let none : name_of c.args.key ≡ None = sym c.name_in.ensures ∙ ap (option_map text_of) c.in_default.is in
    rw none (search rules)
