use Rattle.std.proofs.Common.{◌≡◌, Option, None, get_or, slice_index, ap, arith, filter, length, map, string_bytes, subst, sym}
use Rattle.std.proofs.lemmas.Grind.{common_steps}
use Rattle.hostfiles.proofs.ChangedWalk.{keys_above_none}
use Rattle.folders.specs.declared.drive_folder.DriveFolder.{DriveFolder}
use Rattle.make_rules.specs.Files.{comment_on_absent, folder_of_absent, is_absent, paths_in_call}
use Rattle.make_rules.specs.Paths.{Adds, AddsAbsent, collected}
use Rattle.make_rules.proofs.TextLemmas.{absent_next, added_none, keys_end, keys_next, there_next}
use Rattle.make_rules.proofs.missing.push_absent_files.Goals as goal

pub loop-key-init : goal.loop-key-init
loop-key-init c = λ n h.
    subst (λ ks. AddsAbsent (map string_bytes c.args.targets.now) c.args.drives.now (filter (is_absent c.args.host.now) ks) (collected c.args.paths.now) n) (keys_above_none c.args.asked.now.has) h

pub loop-key-smaller : goal.loop-key-smaller
loop-key-smaller c = let n = ap length (keys_next c.args.asked.now.has c.loop-key.after c.in-Some.key c.in-Some.ensures.least) in omega (arith, n)

pub loop-key-smaller-in_ok-push_absent : goal.loop-key-smaller-in_ok-push_absent
loop-key-smaller-in_ok-push_absent c = let n = ap length (keys_next c.args.asked.now.has c.loop-key.after c.in-Some.key c.in-Some.ensures.least) in omega (arith, n)

pub loop-key-preserved : goal.loop-key-preserved
loop-key-preserved c = λ n h.
    c.loop-key.invariant n (there_next (map string_bytes c.args.targets.now) c.args.drives.now c.args.host.now c.in-Some.key _ _
    (keys_next c.args.asked.now.has c.loop-key.after c.in-Some.key c.in-Some.ensures.least) _ n c.in_default-absent_name.ensures.none h)

pub loop-key-preserved-in_ok-push_absent : goal.loop-key-preserved-in_ok-push_absent
loop-key-preserved-in_ok-push_absent c = λ n h.
    let t = map string_bytes c.args.targets.now in
    let drives = c.args.drives.now in
    let key = c.in-Some.key in
    let absent = c.in-Some-absent_name.ensures.some in
    let drive : get_or drives c.number.result c.index-drives-number.result ≡ get_or drives (slice_index key 0) None = grind (arith, common_steps) in
    let one = subst (λ (d : Option DriveFolder). Adds (folder_of_absent t d key) (paths_in_call t d key) (comment_on_absent d key) (collected c.loop-key.paths) (collected c.push_absent.new.paths)) drive
    (rw absent.1 at c.in_ok-push_absent.ensures) in
    c.loop-key.invariant n (absent_next t drives c.args.host.now key _ _ (keys_next c.args.asked.now.has c.loop-key.after key c.in-Some.ensures.least) _ _ n absent.0 one h)

pub returns : goal.returns
returns c =
    let paths = collected c.loop-key.paths in
    c.loop-key.invariant paths
    (subst (λ ks. AddsAbsent (map string_bytes c.args.targets.now) c.args.drives.now (filter (is_absent c.args.host.now) ks) paths paths)
    (sym (keys_end c.args.asked.now.has c.loop-key.after c.in_default.ensures.least)) (added_none paths))
