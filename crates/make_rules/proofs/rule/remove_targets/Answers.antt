use Rattle.std.proofs.Common.{◌≡◌, ◌∙◌, List, [], ◌∷◌, Bool, filter, map, string_bytes, inl, inr, ap, refl, rules}
use Rattle.std.proofs.lemmas.Bool.{cases_Bool}
use Rattle.std.proofs.lemmas.Fn.{filter_same}
use Rattle.make_rules.specs.Files.{is_other}
use Rattle.make_rules.proofs.rule.remove_targets.Goals as goal

filter_mapped : {X Y : Type 0} (f : X → Y) (p : Y → Bool) (xs : List X) → map f (filter (λ x. p (f x)) xs) ≡ filter p (map f xs)
filter_mapped f p [] = refl
filter_mapped f p (x ∷ xs) = elim (cases_Bool (p (f x))) [
  | inl e ↦ rw e (ap (λ ys. f x ∷ ys) (filter_mapped f p xs))
  | inr e ↦ rw e (filter_mapped f p xs)
]

pub returns : goal.returns
returns c =
    let others = is_other (map string_bytes c.args.targets.now) in
    ap (map string_bytes) (filter_same _ (λ s. others (string_bytes s)) _ (λ x b f' k. search rules) _ _ c.retain.ensures.filtered)
    ∙ filter_mapped string_bytes others c.args.paths.now.items
