use Rattle.std.proofs.Common.{◌≡◌, ◌∙◌, ◌+◌, ◌++◌, ◌∷◌, ◌<◌, ℕ, List, add-one, ap, append-nil, codes, get_or, length, rules, suc, [], sym, take, take-suc}
use Rattle.std.specs.Prelude.{String, string_bytes}
use Rattle.std.proofs.lemmas.List.{flat_map_more}
use Rattle.folders.specs.Faults.{others_text}
use Rattle.faults.proofs.Pieces.{two_texts}
use Rattle.faults.proofs.message.push_others.Goals as goal

more : {Z : Type 0} (paths others : List (String Z)) (first x : String Z) (n : ℕ) → paths ≡ first ∷ others → n < length others → x ≡ get_or others n x
    → others_text (take (n + 1) paths) ++ (codes ", " ++ string_bytes x) ≡ others_text (take (n + 1 + 1) paths)
more paths others first x n is less at =
    rw (is, add-one n, add-one (suc n))
    (flat_map_more (λ p. codes ", " ++ string_bytes p) (codes ", those of other files in " ++ string_bytes first) (take n others) x
    ∙ ap (λ ts. others_text (first ∷ ts)) (sym (take-suc others n x less ∙ ap (λ y. take n others ++ y ∷ []) (sym at))))

pub loop-path-preserved : goal.loop-path-preserved
loop-path-preserved g c =
    let before = others_text (take (c.loop-path.path-index + 1) c.args.paths.now) in
    let path = c.as_str-in-loop-path.result.now in
    two_texts _ _ _ before (codes ", " ++ (path ++ [])) _ c.loop-path.invariant c.push_shown_pieces-in-loop-path.ensures
    (ap (λ t. before ++ (codes ", " ++ t)) (append-nil path ∙ c.as_str-in-loop-path.ensures.value)
    ∙ more c.args.paths.now c.in-Some.others.now c.in-Some.first.now c.path-item.result c.loop-path.path-index (search rules) c.loop-path-test.true c.path-item.is)
