-- Texts that are split at their last `.` (46).
use Rattle.std.proofs.Common.{◌≡◌, ◌≢◌, ◌<◌, ◌+◌, ◌-◌, ◌++◌, ◌∷◌, inl, inr, ℕ, zero, suc, List, [], length, get_or, take, drop, Option, Some, None, MatchOption, refl, sym, ap, ◌∙◌, arith, length-append, length-drop, false}
use Rattle.std.specs.Borrow.{Bor}
use Rattle.std.specs.Option.{option_map}
use Rattle.std.specs.Path.{rfind_below, rsplit_once}
use Rattle.std.specs.Str.Pattern.{RFindsChar, SplitsAroundMatch}
use Rattle.folders.specs.FileSystem.{Path}
use Rattle.folders.specs.LeftNames.{before_number, is_left, is_new_of_file}
use Rattle.std.proofs.lemmas.Bool.Decides.{eqb_tells}
use Rattle.std.proofs.Math.Seq.{drop-append-add, get_or-append_seam, take-append_seam}
use Rattle.std.proofs.lemmas.List.{get_or-append-add, get_or-drop}
use Rattle.std.proofs.lemmas.Str.{len_utf8_ascii}
use Rattle.std.proofs.lemmas.Str.Pattern.{NoCharPasses-char}

none_below : (text : List ℕ) (n : ℕ) → ((i : ℕ) → i < n → get_or text i 0 ≢ 46) → rfind_below 46 text n ≡ None
none_below text zero none = refl
none_below text (suc n) none = elim (eqb_tells (get_or text n 0) 46) [
  | inl e ↦ absurd (none n (omega arith) e.1)
  | inr e ↦ rw e.0 (none_below text n (λ i less. none i (omega arith)))
]

last_below : (text : List ℕ) (k n : ℕ) → k < n → get_or text k 0 ≡ 46 → ((i : ℕ) → k < i → i < n → get_or text i 0 ≢ 46) → rfind_below 46 text n ≡ Some k
last_below text k zero less at none = absurd (omega arith)
last_below text k (suc n) less at none = elim (eqb_tells k n) [
  | inl same ↦ elim (eqb_tells (get_or text n 0) 46) [
    | inl e ↦ rw e.0 (ap Some (sym same.1))
    | inr e ↦ absurd (e.1 (ap (λ i. get_or text i 0) (sym same.1) ∙ at))
  ]
  | inr apart ↦ elim (eqb_tells (get_or text n 0) 46) [
    | inl e ↦ absurd (none n (let ne = apart.1 in omega arith) (omega arith) e.1)
    | inr e ↦ rw e.0 (last_below text k n (let ne = apart.1 in omega arith) at (λ i more below. none i more (omega arith)))
  ]
]

-- What `rsplit_once` returns.
pub split : (text : List ℕ) (r : Option (Bor (List ℕ) × Bor (List ℕ))) → MatchOption r (RFindsChar 46 text None) (λ x. SplitsAroundMatch (RFindsChar 46) text x.0.now x.1.now)
    → rsplit_once 46 text ≡ option_map (λ x. (x.0.now, x.1.now)) r
unfolding rsplit_once
split text None none = rw (none_below text (length text) (λ i. NoCharPasses-char 46 text i none (omega arith)))
split text (Some x) h =
    let (i, j, found, front, back, le, long, rest) = h in
    let next : j ≡ i + 1 = omega (arith, found.1.ends, len_utf8_ascii 46 (omega arith)) in
    let later : (k : ℕ) → i < k → k < length text → get_or text k 0 ≢ 46 = λ k more less e.
    let back : j + (k - j) ≡ k = omega arith in
    NoCharPasses-char 46 (drop j text) (k - j) found.0 (omega arith) (omega (arith, length-drop j text)) (get_or-drop j text (k - j) 0 ∙ ap (λ n. get_or text n 0) back ∙ e) in
    let at : rfind_below 46 text (length text) ≡ Some i = last_below text i (length text) (omega (arith, rest, next)) (found.1.byte (omega arith)) later in
    let before : take i text ≡ x.0.now = sym front in
    let after : drop (i + 1) text ≡ x.1.now = ap (λ n. drop n text) (sym next) ∙ sym back in
    rw (at, before, after)

-- A text whose last `.` is at this place.
pub split_at : (front back : List ℕ) → ((i : ℕ) → i < length back → get_or back i 0 ≢ 46) → rsplit_once 46 (front ++ 46 ∷ back) ≡ Some (front, back)
unfolding rsplit_once
split_at front back none =
    let text = front ++ 46 ∷ back in
    let later : (i : ℕ) → length front < i → i < length text → get_or text i 0 ≢ 46 = λ i more less e.
    let k = i - length front - 1 in
    let at : length front + suc k ≡ i = omega arith in
    none k (omega (arith, length-append front (46 ∷ back))) (sym (get_or-append-add front (46 ∷ back) (suc k) 0) ∙ ap (λ n. get_or text n 0) at ∙ e) in
    let here = last_below text (length front) (length text) (omega (arith, length-append front (46 ∷ back))) (get_or-append_seam front 46 back 0) later in
    rw (here, take-append_seam front (46 ∷ back), drop-append-add front (46 ∷ back) 1)

-- Whether a name is one that an ended run left, by the parts of the rest.
pub left_by : (name rest shorter : Path) (r : Option (Bor (List ℕ) × Bor (List ℕ))) → name ≡ 46 ∷ rest → shorter ≡ before_number rest (rsplit_once 46 rest)
    → MatchOption r (RFindsChar 46 shorter None) (λ x. SplitsAroundMatch (RFindsChar 46) shorter x.0.now x.1.now)
    → is_left name ≡ is_new_of_file (option_map (λ x. (x.0.now, x.1.now)) r)
left_by name rest shorter r dot before h = ap is_left dot ∙ ap (λ s. is_new_of_file (rsplit_once 46 s)) (sym before) ∙ ap is_new_of_file (split shorter r h)

pub not_left : (name : Path) → ((rest : Path) → name ≢ 46 ∷ rest) → is_left name ≡ false
not_left [] none = refl
not_left (first ∷ rest) none = elim (eqb_tells first 46) [
  | inl e ↦ absurd (none rest (ap (λ b. b ∷ rest) e.1))
  | inr e ↦ rw e.0
]
