use Rattle.std.proofs.Common.{◌≡◌, ◌++◌, ◌∙◌, Some, ap, ap₂, filter, map, string_bytes}
use Rattle.dependencies.specs.Rows.{rows_from}
use Rattle.dependencies.specs.declared.rows.Joining.TheVariants.{Joined}
use Rattle.make_rules.specs.Files.{absent_files, all_files, all_folders, comment_on_absent, each_absent, folder_of_absent, is_other, paths_in_call}
use Rattle.make_rules.specs.Rule.{Needs, path_if_asked}
use Rattle.make_rules.proofs.rule.paths_of.Goals as goal

-- Equal parts are equal paths.
same_needs : (a b : Needs) → a.program ≡ b.program → a.others ≡ b.others → a.missing ≡ b.missing → a.comments ≡ b.comments → a ≡ b
same_needs a b p o m c = λ i. record { program = p i; others = o i; missing = m i; comments = c i }

pub returns : goal.returns
returns c =
    let targets = map string_bytes c.args.targets.now in
    let w = c.args.words.now in
    let t = c.args.run.now.looks in
    let drives = c.args.drives.now in
    let script = path_if_asked (rows_from Joined t.offsets 0) w.console in
    let files = all_files t.files drives in
    let folders = all_folders t.files drives in
    let absent = ap₂ absent_files c.files-host.ensures c.files-asked.ensures in
    let added = c.in_ok-push_absent_files.ensures in
    let first = c.in_ok-push_if_asked-2.ensures
    ∙ ap₂ (λ o e. map string_bytes o ++ path_if_asked (rows_from Joined e 0) w.console) c.new-2.ensures.items c.offsets.ensures in
    let second = c.in_ok-push_files.ensures ∙ ap₂ (λ f d. map string_bytes c.push_if_asked-2.new.paths.items ++ all_files f d) c.files-asked.ensures c.as_slice.ensures
    ∙ ap (λ o. o ++ files) first in
    let third = c.in_ok-push_folders.ensures ∙ ap₂ (λ f d. map string_bytes c.push_files.new.paths.items ++ all_folders f d) c.files-asked.ensures c.as_slice-2.ensures
    ∙ ap (λ o. o ++ folders) second in
    same_needs _ _
    (added.program ∙ c.remove_targets.ensures ∙ ap (filter (is_other targets)) (c.in_ok-push_if_asked.ensures
    ∙ ap₂ (λ o e. map string_bytes o ++ path_if_asked (rows_from Joined e 256) (Some w.program)) c.new.ensures.items c.cells-cells.ensures))
    (c.remove_targets-2.ensures ∙ ap (filter (is_other targets)) (added.others ∙ ap₂ (λ o ks. o ++ each_absent (folder_of_absent targets) drives ks) third absent))
    (added.missing ∙ ap₂ (λ o ks. map string_bytes o ++ each_absent (paths_in_call targets) drives ks) c.new-3.ensures.items absent)
    (added.comments ∙ ap₂ (λ o ks. o ++ each_absent comment_on_absent drives ks) c.new-4.ensures.items absent)
