use Rattle.std.proofs.Common.{ap₂, sym, ◌∙◌}
use Rattle.std.specs.Prelude.{nat_lt, string_bytes}
use Rattle.filenames.specs.Drives.{drive_number}
use Rattle.folders.specs.LetterCase.{is_lower, is_upper}
use Rattle.folders.proofs.CaseLemmas.{filter-map}
use Rattle.folders.proofs.letter_case.prefers_lower.Goals as goal

pub returns : goal.returns
returns c =
    let drive = drive_number c.args.drive in
    ap₂ nat_lt (c.upper_count.ensures ∙ sym (filter-map (is_upper drive) string_bytes c.args.names.now))
    (c.lower_count.ensures ∙ sym (filter-map (is_lower drive) string_bytes c.args.names.now))
