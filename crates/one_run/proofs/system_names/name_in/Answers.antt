use Rattle.std.proofs.Common.{◌==◌, List, ap, find, option_map, ◌∙◌}
use Rattle.one_run.specs.SystemNames.{Row, name_of}
use Rattle.one_run.proofs.NameLemmas.{first_name, text_of}
use Rattle.one_run.proofs.system_names.name_in.Goals as goal

pub returns : goal.returns
unfolding name_of
returns c =
    ap (option_map text_of) c.first_name.ensures ∙ first_name c.args.rows.now c.args.key
    ∙ ap (λ (rows : List Row). option_map (λ (row : Row). row.1) (find (λ (row : Row). row.0 == c.args.key) rows)) c.requires
