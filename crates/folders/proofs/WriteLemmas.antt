-- Records that are written one after the other.
use Rattle.std.proofs.Common.{◌≡◌, ◌<◌, ◌≤◌, ℕ, ◌+◌, List, [], ◌∷◌, ◌++◌, length, take, take-suc, add-one, append-nil, append_assoc, Option, Some, None, unwrap_or, sym, ap, subst, ◌∙◌, arith}
use Rattle.hostfiles.proofs.ContentsLemmas.{record_here}
use Rattle.std.specs.List.{concat, slice_get}
use Rattle.std.specs.Option.{option_map, option_and_then}
use Rattle.std.specs.Io.KnownBytes.{Appends}
use Rattle.std.proofs.KnownBytes.{Appends-trans, Appends-nil}
use Rattle.std.proofs.lemmas.List.{take_all}
use Rattle.std.proofs.lemmas.Option.{get_or_from_slice_get, slice_get_within, slice_get-get_or}

concat_push : (rs : List (List ℕ)) (r : List ℕ) → concat (rs ++ r ∷ []) ≡ concat rs ++ r
concat_push [] r = append-nil r
concat_push (q ∷ rs) r = ap (λ t. q ++ t) (concat_push rs r) ∙ sym (append_assoc q (concat rs) r)

-- The next record was written.
pub one_more : (a b c : Option (List ℕ)) (t : Option (List (List ℕ))) (n : ℕ) (r : List ℕ) → Some r ≡ option_and_then (λ f. slice_get f n) t
    → Appends a b (concat (take n (unwrap_or t []))) → Appends b c r → Appends a c (concat (take (n + 1) (unwrap_or t [])))
one_more a b c t n r h p q =
    let rs = unwrap_or t [] in
    let here = record_here t n r h in
    let one : take (n + 1) rs ≡ take n rs ++ r ∷ [] = rw add-one (take-suc rs n r (slice_get_within rs n r here)) ∙ ap (λ x. take n rs ++ x ∷ []) (get_or_from_slice_get rs n r r here) in
    subst (Appends a c) (sym (ap concat one ∙ concat_push (take n rs) r)) (Appends-trans a b c (concat (take n rs)) r p q)

-- Below the count there is a record.
pub not_none : (t : Option (List (List ℕ))) (count n : ℕ) → Some count ≡ option_map length t → n < count → None ≡ option_and_then (λ f. slice_get f n) t → ⊥
not_none None count n some h none = cc
not_none (Some f) count n some h none = let there = slice_get-get_or f n [] (let same : count ≡ length f = cc in omega (arith, same)) in cc

-- All records were written.
pub all_written : (a b : Option (List ℕ)) (t : Option (List (List ℕ))) (count n : ℕ) → Some count ≡ option_map length t → count ≤ n
    → Appends a b (concat (take n (unwrap_or t []))) → Appends a b (concat (unwrap_or t []))
all_written a b None count n some h p = cc
all_written a b (Some f) count n some h p = subst (λ x. Appends a b (concat x)) (take_all n f (let same : count ≡ length f = cc in omega (arith, same))) p

-- There is no file.
pub none_written : (a : Option (List ℕ)) (t : Option (List (List ℕ))) → None ≡ option_map length t → Appends a a (concat (unwrap_or t []))
none_written a None h = Appends-nil a
none_written a (Some f) h = cc
