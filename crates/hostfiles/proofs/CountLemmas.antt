-- The count of an extent.
use Rattle.std.proofs.Common.{◌≡◌, ◌<◌, ◌≤◌, ◌+◌, ◌*◌, ℕ, zero, suc, true, false, cond, is_some, List, [], ◌∷◌, map, take, drop, get_or, nat_lt, Option, None, Some, option_map, option_copied, Bor, rules, refl, ap, ◌∙◌, arith, inl, inr}
use Rattle.std.proofs.lemmas.Bool.{cases_lt}
use Rattle.std.proofs.lemmas.List.{get_or-take, get_or-drop, get_or_past, get_or-map, length-map, length-take}
use Rattle.std.proofs.lemmas.List.FromFn.{get_or-map-range_with_len, length-map-range_with_len}
use Rattle.std.specs.Prelude.{◌==◌}
use Rattle.std.specs.List.{range_with_len}
use Rattle.directory.specs.Entries.{Shape, count_of, count_at, count_in, count_if_any}
use Rattle.hostfiles.specs.Hosts.{Key, Host}
use Rattle.hostfiles.specs.Files.{OwnFiles, has, length_at, record_or_hole, entry_at, file_of, shape_at}
use Rattle.hostfiles.specs.File.{shape_of}

-- Without a record the count is 0.
pub count_none : (xs : Shape) → ((k : ℕ) → get_or xs k false ≡ false) → count_of xs ≡ 0
count_none [] h = refl
count_none (b ∷ bs) h =
    ap (λ n. cond (nat_lt 0 n) (n + 1) (cond b 1 0)) (count_none bs (λ k. h (suc k))) ∙ ap (λ c. cond c 1 0) (h 0)

-- If a record is the last one, the count is its index plus one.
pub count_some : (xs : Shape) (i : ℕ) → get_or xs i false ≡ true → ((k : ℕ) → i < k → get_or xs k false ≡ false) → count_of xs ≡ i + 1
count_some [] i h none = cc
count_some (b ∷ bs) zero h none =
    ap (λ n. cond (nat_lt 0 n) (n + 1) (cond b 1 0)) (count_none bs (λ k. none (suc k) (omega arith))) ∙ ap (λ c. cond c 1 0) h
count_some (b ∷ bs) (suc i) h none =
    let rest = count_some bs i h (λ k l. none (suc k) (omega arith)) in
    let more : nat_lt 0 (i + 1) ≡ true = search rules in
    let next : i + 1 + 1 ≡ suc i + 1 = omega arith in
    ap (λ n. cond (nat_lt 0 n) (n + 1) (cond b 1 0)) rest ∙ ap (λ c. cond c (i + 1 + 1) (cond b 1 0)) more ∙ next

-- Whether there is a record at an index of an extent.
pub in_extent : (s : Shape) (e i : ℕ) → i < 128 → get_or (take 128 (drop (128 * e) s)) i false ≡ get_or s (128 * e + i) false
in_extent s e i h = get_or-take 128 (drop (128 * e) s) i false h ∙ get_or-drop (128 * e) s i false

pub past_extent : (s : Shape) (e i : ℕ) → 128 ≤ i → get_or (take 128 (drop (128 * e) s)) i false ≡ false
past_extent s e i h = get_or_past (take 128 (drop (128 * e) s)) i false (let l = length-take 128 (drop (128 * e) s) in omega arith)

-- A turn of the search from the extent's end.
pub none_from : (s : Shape) (e i : ℕ) → i < 128 → get_or s (128 * e + i) false ≡ false → ((k : ℕ) → i + 1 ≤ k → get_or (take 128 (drop (128 * e) s)) k false ≡ false)
    → (k : ℕ) → i ≤ k → get_or (take 128 (drop (128 * e) s)) k false ≡ false
none_from s e i h here past k l = elim (cases_lt i k) [
  | inl over ↦ past k (omega arith)
  | inr under ↦ let same : k ≡ i = omega arith in ap (λ j. get_or (take 128 (drop (128 * e) s)) j false) same ∙ in_extent s e i h ∙ here
]

pub count_found : (s : Shape) (e i : ℕ) → i < 128 → get_or s (128 * e + i) false ≡ true → ((k : ℕ) → i + 1 ≤ k → get_or (take 128 (drop (128 * e) s)) k false ≡ false) → count_at s e ≡ i + 1
count_found s e i h here past = count_some (take 128 (drop (128 * e) s)) i (in_extent s e i h ∙ here) (λ k l. past k (omega arith))

pub count_empty : (s : Shape) (e : ℕ) → ((k : ℕ) → 0 ≤ k → get_or (take 128 (drop (128 * e) s)) k false ≡ false) → count_at s e ≡ 0
count_empty s e none = count_none (take 128 (drop (128 * e) s)) (λ k. none k (omega arith))

-- Whether a file of length n has a record at a number below n.
pub record_shape : (f : ℕ → Option (List ℕ)) (n p : ℕ) → p < n → get_or (map is_some (map f (range_with_len 0 n))) p false ≡ is_some (f p)
record_shape f n p h =
    let count = length-map-range_with_len f 0 n in
    let at : 0 + p ≡ p = omega arith in
    get_or-map is_some (map f (range_with_len 0 n)) p None false (omega arith) ∙ ap is_some (get_or-map-range_with_len f 0 n p p None h at)

-- A reference to a record is present if and only if the record is.
pub some_copied : (r : Option (Bor (List ℕ))) (o : Option (List ℕ)) → option_copied r ≡ o → is_some r ≡ is_some o
some_copied None o e = ap is_some e
some_copied (Some r) o e = ap is_some e

pub past_shape : (f : ℕ → Option (List ℕ)) (n p : ℕ) → n ≤ p → get_or (map is_some (map f (range_with_len 0 n))) p false ≡ false
past_shape f n p h =
    let all = length-map (map f (range_with_len 0 n)) is_some in
    let count = length-map-range_with_len f 0 n in
    get_or_past (map is_some (map f (range_with_len 0 n))) p false (omega arith)

-- An extent of a file of length n has no record past the end of the file.
pub none_past : (f : ℕ → Option (List ℕ)) (n e i : ℕ) → ((k : ℕ) → i ≤ k → k < 128 → n ≤ 128 * e + k)
    → (k : ℕ) → i ≤ k → get_or (take 128 (drop (128 * e) (map is_some (map f (range_with_len 0 n))))) k false ≡ false
none_past f n e i past k l = elim (cases_lt k 128) [
  | inl under ↦ in_extent (map is_some (map f (range_with_len 0 n))) e k under ∙ past_shape f n (128 * e + k) (past k l under)
  | inr over ↦ past_extent (map is_some (map f (range_with_len 0 n))) e k over
]

no_entry : (s : Shape) (e : ℕ) → 1 ≤ e → count_at s e ≡ 0 → count_in s e ≡ None
no_entry [] e one h = let other : (e == 0) ≡ false = search rules in ap (λ b. cond b (Some 0) None) other
no_entry (b ∷ bs) e one h = ap (λ n. cond (nat_lt 0 n) (Some n) None) h

-- An extent past the end of a file has no entry.
pub past_entries : (host : Host) (own : OwnFiles) (key : Key) (e : ℕ) → 1 ≤ e → length_at host own key ≤ 128 * e → count_if_any (shape_at host own key) e ≡ None
past_entries host own key e one past =
    let s : Shape = shape_of (file_of host key (entry_at own key)) in
    let none = none_past (record_or_hole host key (entry_at own key)) (length_at host own key) e 0 (λ k l u. omega arith) in
    elim (has host own key) as (λ b. count_if_any (option_map shape_of (cond b (Some (file_of host key (entry_at own key))) None)) e ≡ None) [
      | true ↦ no_entry s e one (count_empty s e none)
      | false ↦ refl
    ]
