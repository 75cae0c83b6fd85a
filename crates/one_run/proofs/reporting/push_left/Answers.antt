use Rattle.std.proofs.Common.{◌++◌, ◌∙◌, ap, map, string_bytes, take}
use Rattle.std.specs.List.{flat_map}
use Rattle.streams.proofs.Pushes.{next_pushed}
use Rattle.one_run.specs.StopLines.{left_line}
use Rattle.one_run.proofs.Walking.{one_part}
use Rattle.one_run.proofs.reporting.push_left.Goals as goal

pub loop-path-preserved : goal.loop-path-preserved
loop-path-preserved g c =
    let named = c.split_at.result.0.now in
    let before = flat_map left_line (map string_bytes (take c.loop-path.path-index named)) in
    next_pushed _ _ _ _ _ _ c.loop-path.invariant c.push_path.ensures (ap (λ path. before ++ left_line path) c.as_str.ensures.value
    ∙ one_part string_bytes left_line named c.loop-path.path-index c.path-item.result c.loop-path-test.true c.path-item.is)
