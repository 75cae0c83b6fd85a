use Rattle.std.proofs.Common.{◌≡◌, ◌∙◌, ◌+◌, ◌∷◌, ◌++◌, [], ap, append-nil, codes, string_bytes, sym}
use Rattle.filenames.specs.Names.{display_text}
use Rattle.folders.specs.Faults.{letter_of, others_text}
use Rattle.faults.proofs.Pieces.{five_joined, is_text, name_joined, two_texts}
use Rattle.faults.proofs.message.push_folder_fault.Goals as goal

pub returns-in-CannotRead : goal.returns-in-CannotRead
returns-in-CannotRead g c =
    rw c.in-CannotRead.is (is_text _ _ _ _ c.push_shown_pieces.ensures (ap (λ t. codes "cannot read " ++ t) (append-nil _ ∙ c.as_str.ensures.value)))

pub returns-in-CannotMove : goal.returns-in-CannotMove
returns-in-CannotMove g c =
    let contents = codes ": its contents are in " in
    let path = c.as_str-in-CannotMove.result.now in
    let other = c.as_str-in-CannotMove-2.result.now in
    let others = others_text c.as_slice.result.now in
    let same
    : (codes "cannot write " ++ (path ++ (contents ++ (other ++ [])))) ++ others
    ≡ codes "cannot write " ++ string_bytes c.in-CannotMove.path ++ contents ++ string_bytes c.in-CannotMove.other ++ others_text c.in-CannotMove.others.items =
    rw (sym c.as_str-in-CannotMove.ensures.value, sym c.as_str-in-CannotMove-2.ensures.value, sym c.as_slice.ensures.value)
    (five_joined (codes "cannot write ") path contents other others) in
    rw c.in-CannotMove.is
    (two_texts _ _ _ (codes "cannot write " ++ (path ++ (contents ++ (other ++ [])))) others _ c.push_shown_pieces-in-CannotMove.ensures c.push_others.ensures same)

pub returns-in-Changed : goal.returns-in-Changed
returns-in-Changed g c =
    rw c.in-Changed.is (is_text _ _ _ _ c.push_shown_pieces-in-Changed.ensures
    (ap (λ t. codes "cannot write " ++ t ++ codes ": it was changed meanwhile") c.as_str-in-Changed.ensures.value))

pub returns-in-NoFolder : goal.returns-in-NoFolder
returns-in-NoFolder g c =
    let letter : c.letter-letter.result.now ≡ letter_of c.in-NoFolder.name = c.letter-letter.ensures ∙ ap (λ d. (65 + d) ∷ []) c.drive.ensures in
    rw (c.in-NoFolder.is, sym letter) (is_text _ _ _ _ c.push_name.ensures
    (name_joined (codes "cannot write ") (display_text c.in-NoFolder.name) (codes ": drive ") c.letter-letter.result.now (codes " has no folder")))

pub returns-in-TwoFiles : goal.returns-in-TwoFiles
returns-in-TwoFiles g c =
    rw c.in-TwoFiles.is (is_text _ _ _ _ c.push_name-in-TwoFiles.ensures (ap (λ t. codes "two files are " ++ t) (append-nil (display_text c.in-TwoFiles.name))))

pub returns-in-TooManyFiles : goal.returns-in-TooManyFiles
returns-in-TooManyFiles g c =
    rw c.in-TooManyFiles.is (is_text _ _ _ _ c.push_shown_pieces-in-TooManyFiles.ensures
    (ap (λ t. t ++ codes " would have more than 512 files") c.as_str-in-TooManyFiles.ensures.value))
