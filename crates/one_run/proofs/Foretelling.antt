-- What a dry run would do with the changed files, one after another.
use Rattle.std.proofs.Common.{◌≡◌, ◌∙◌, ◌+◌, ◌++◌, ◌<◌, ℕ, List, Option, Some, None, IfSome, ap, append_assoc, get_or, length, map, sym, take}
use Rattle.std.proofs.lemmas.List.{map-append}
use Rattle.folders.specs.FileSystem.{FileBytes, Path}
use Rattle.one_run.specs.ChangedList.{Changed, changed_by, planned, planned_for}
use Rattle.one_run.specs.DryRun.{foretold, foretold_of}
use Rattle.one_run.specs.declared.changed.Entry.{Entry}
use Rattle.one_run.specs.declared.dry_run.Verb.{Verb}
use Rattle.one_run.specs.declared.planning.Turn.{Turn}
use Rattle.one_run.proofs.Walking.{one_part}

-- What would be done with the next file is added.
pub one_more_foretold : (o : Option FileBytes) (turn : Turn) (entries : List Entry) (n : ℕ) (e : Entry) (old before after : List (Verb × Path))
    → n < length entries → e ≡ get_or entries n e
    → IfSome o (λ stored. before ≡ old ++ foretold stored (planned turn (map changed_by (take n entries))))
    → IfSome o (λ stored. after ≡ before ++ foretold stored (planned_for turn (changed_by e)))
    → IfSome o (λ stored. after ≡ old ++ foretold stored (planned turn (map changed_by (take (n + 1) entries))))
one_more_foretold None turn entries n e old before after less is first next = tt
one_more_foretold (Some stored) turn entries n e old before after less is first next =
    let done = planned turn (map changed_by (take n entries)) in
    let one = planned_for turn (changed_by e) in
    next ∙ ap (λ t. t ++ foretold stored one) first ∙ append_assoc old (foretold stored done) (foretold stored one)
    ∙ ap (λ t. old ++ t) (sym (map-append (foretold_of stored) done one) ∙ ap (foretold stored) (one_part changed_by (planned_for turn) entries n e less is))

-- What would be done in a turn, with the turns before it.
pub then_foretold : (o : Option FileBytes) (old before after : List (Verb × Path)) (f g : FileBytes → List (Verb × Path))
    → IfSome o (λ stored. before ≡ old ++ f stored) → IfSome o (λ stored. after ≡ before ++ g stored) → IfSome o (λ stored. after ≡ old ++ (f stored ++ g stored))
then_foretold None old before after f g first next = tt
then_foretold (Some stored) old before after f g first next = next ∙ ap (λ t. t ++ g stored) first ∙ append_assoc old (f stored) (g stored)
