use Rattle.std.proofs.Common.{◌++◌, ap, arith, length, map, string_bytes, sym, ◌∙◌}
use Rattle.std.specs.List.{flat_map}
use Rattle.hostfiles.proofs.ChangedWalk.{keys_above_end, keys_above_none}
use Rattle.make_rules.specs.Files.{drive_files, file_part, name_found, part_of_file}
use Rattle.make_rules.proofs.TextLemmas.{keys_least, part_end, part_next}
use Rattle.make_rules.proofs.files.push_drive_files.Goals as goal

pub loop-key-init : goal.loop-key-init
loop-key-init c =
    let d = c.in-Some.drive in
    ap (λ keys. map string_bytes c.args.paths.now.items ++ flat_map (file_part c.args.asked.now d) keys) (keys_above_none d.listing.now.files)

pub loop-key-smaller : goal.loop-key-smaller
loop-key-smaller c =
    let e = c.in-Some-next_key_value in
    let n = ap length (keys_least c.in-Some.drive.listing.now.files c.loop-key.after e.key.now e.name.now e.ensures.there e.ensures.least) in
    omega (arith, n)

pub loop-key-preserved : goal.loop-key-preserved
loop-key-preserved c =
    let d = c.in-Some.drive in
    let e = c.in-Some-next_key_value in
    part_next (file_part c.args.asked.now d) (map string_bytes c.loop-key.paths.items) (map string_bytes c.push_file.new.paths.items) _ _ e.key.now _
    (c.in_ok-push_file.ensures
    ∙ ap (λ name. map string_bytes c.loop-key.paths.items ++ part_of_file c.args.asked.now d name e.key.now) (c.as_str.ensures.value ∙ sym (ap name_found e.ensures.there)))
    (keys_least d.listing.now.files c.loop-key.after e.key.now e.name.now e.ensures.there e.ensures.least) c.loop-key.invariant

pub returns : goal.returns
returns c =
    let d = c.in-Some.drive in
    part_end (file_part c.args.asked.now d) (map string_bytes c.loop-key.paths.items) (map string_bytes c.loop-key.paths.items) _ _
    (keys_above_end d.listing.now.files c.loop-key.after c.in_default-next_key_value.ensures.least) c.loop-key.invariant
    ∙ ap (λ drive. map string_bytes c.args.paths.now.items ++ drive_files c.args.asked.now drive) (sym c.in-Some.is)
