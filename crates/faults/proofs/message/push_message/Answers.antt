use Rattle.std.proofs.Common.{◌≡◌, ◌∙◌, ◌++◌, ap, append-nil, codes}
use Rattle.std.specs.Fmt.{decimal}
use Rattle.streams.specs.Pushing.{more}
use Rattle.faults.proofs.Pieces.{is_line}
use Rattle.faults.proofs.message.push_message.Goals as goal

pub returns-in-NotText : goal.returns-in-NotText
returns-in-NotText g c =
    rw c.in-NotText.is (c.push_pieces-in-NotText.ensures
    ∙ ap (λ name. more (g.X.Text.pushed c.args.text.now)
    (codes "error: invalid UTF-8 was detected in one or more arguments\n\nUsage: " ++ name ++ codes " [OPTIONS] <PROGRAM> [TAIL]\n\nFor more information, try '--help'.\n"))
    c.name.ensures)

pub returns-in-CannotRead : goal.returns-in-CannotRead
returns-in-CannotRead g c = rw c.in-CannotRead.is (is_line _ _ _ _ _ c.push_line.ensures (ap (λ t. codes "cannot read " ++ t) (append-nil c.in-CannotRead.path.now)))

pub returns-in-Refused : goal.returns-in-Refused
returns-in-Refused g c =
    rw c.in-Refused.is (is_line _ _ _ _ _ c.push_numbered.ensures
    (ap (λ t. codes "session refused " ++ t) (append-nil (decimal c.from.result) ∙ ap decimal c.from.ensures)))

pub returns-in-RulePath : goal.returns-in-RulePath
returns-in-RulePath g c =
    rw c.in-RulePath.is (is_line _ _ _ _ _ c.push_line-in-RulePath.ensures
    (ap (λ t. codes "a rule for make cannot have the path " ++ t) (append-nil _ ∙ c.as_str.ensures.value)))
