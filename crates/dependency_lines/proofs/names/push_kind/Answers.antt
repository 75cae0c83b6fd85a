use Rattle.std.proofs.Common.{List, ap, arith, length, map, sym}
use Rattle.std.specs.List.{concat}
use Rattle.streams.specs.Pushing.{more}
use Rattle.streams.proofs.Pushes.{all_pushed, part_pushed}
use Rattle.filenames.specs.Names.{Key}
use Rattle.dependency_lines.specs.Names.{lines_of_name}
use Rattle.dependency_lines.proofs.KeyLemmas.{asked_above_none, asked_end, asked_next}
use Rattle.dependency_lines.proofs.names.push_kind.Goals as goal

pub loop-key-init : goal.loop-key-init
loop-key-init g c =
    let line = lines_of_name c.args.joining c.args.host.now c.args.asked.now c.args.kind in
    ap (λ keys. more (g.X.Text.pushed c.args.text.now) (concat (map line keys))) (asked_above_none c.args.asked.now c.args.kind)

pub loop-key-smaller : goal.loop-key-smaller
loop-key-smaller g c = let n = ap length (asked_next c.args.asked.now c.args.kind c.loop-key.after c.in-Some.key c.in-Some.ensures) in omega (arith, n)

pub loop-key-preserved : goal.loop-key-preserved
loop-key-preserved g c =
    let line = lines_of_name c.args.joining c.args.host.now c.args.asked.now c.args.kind in
    part_pushed _ _ _ _ _ _ c.push_name.ensures
    (sym (ap (λ (keys : List Key). concat (map line keys)) (asked_next c.args.asked.now c.args.kind c.loop-key.after c.in-Some.key c.in-Some.ensures))) c.loop-key.invariant

pub returns : goal.returns
returns g c =
    let line = lines_of_name c.args.joining c.args.host.now c.args.asked.now c.args.kind in
    all_pushed _ _ _ (ap (λ (keys : List Key). concat (map line keys)) (asked_end c.args.asked.now c.args.kind c.loop-key.after c.in_default.ensures)) c.loop-key.invariant
