use Rattle.std.proofs.Common.{◌≡◌, ◌∙◌, ◌++◌, ℕ, List, [], ap, map, refl, string_bytes}
use Rattle.std.specs.List.{flat_map}
use Rattle.make_rules.specs.Paths.{collected}
use Rattle.make_rules.specs.Rule.{empty_rule, rule_text}
use Rattle.make_rules.proofs.RunPaths.{drives_allowed, read_by_make}
use Rattle.make_rules.proofs.rule.rule_of_run.Goals as goal

joined : (t0 t1 t2 t3 t4 line rules rules' comments comments' stop : List ℕ) → t0 ≡ [] → t1 ≡ t0 ++ line → t2 ≡ t1 ++ rules → rules ≡ rules' → t3 ≡ t2 ++ comments → comments ≡ comments' → t4 ≡ t3 ++ stop
    → t4 ≡ ((line ++ rules') ++ comments') ++ stop
joined t0 t1 t2 t3 t4 line rules rules' comments comments' stop a b c d e f g = rw (g, e, f, c, d, b, a) refl

pub returns : goal.returns
returns c =
    let targets = map string_bytes c.args.targets.now in
    let w = c.args.words.now in
    let run = c.args.run.now in
    let drives = c.with_names-drives.result in
    let listed = c.with_names-drives.ensures in
    let text : c.push_stop_comment.new.text.items ≡ rule_text targets (collected c.in_ok-paths.paths) run.cause =
    joined _ _ _ _ _ _ _ _ _ _ _ c.new-text.ensures.items c.in_ok-push_line.ensures c.in_ok-push_empty_rules.ensures (ap (λ p. flat_map empty_rule (map string_bytes p)) c.as_slice.ensures.value)
    c.in_ok-extend_from_slice.ensures.items c.as_slice-2.ensures.value c.in_ok-push_stop_comment.ensures in
    record {
      from = record { looks = run.looks; steps = run.steps; cause = run.cause; are = c.requires.run; drives = drives; listed = listed };
      is = text ∙ ap (λ n. rule_text targets n run.cause) c.in_ok-paths.ensures;
      read = read_by_make targets w drives run.session.now run.looks c.requires.targets c.requires.words (drives_allowed w drives c.args.listings.now listed c.requires.words);
    }
