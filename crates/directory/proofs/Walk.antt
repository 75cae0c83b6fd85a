-- The first match in the directory, found by a walk from key to key.
use Rattle.std.proofs.Common.{◌≡◌, ℕ, zero, suc, ◌+◌, ◌-◌, ◌<◌, ◌≤◌, arith, Bool, true, false, cond, List, [], ◌∷◌, ◌++◌, Some, None, Option, refl, sym, ap, subst, ◌∙◌}
use Rattle.std.proofs.Common.{rules, inl, inr}
use Rattle.std.proofs.lemmas.Bool.{cases_lt}
use Rattle.std.specs.Prelude.{T, ◌&&◌, ◌||◌, ◌==◌, nat_lt}
use Rattle.std.specs.declared.cmp.Ordering.TheVariants.{Less, Equal, Greater}
use Rattle.std.specs.Ordering.{is_lt, is_eq, nat_cmp}
use Rattle.std.specs.Cmp.Lexicographic.{slice_cmp, nat_list_cmp_total}
use Rattle.std.specs.List.{filter, find, range_with_len, slice_get}
use Rattle.std.specs.FinMap.{is_sorted, get, entries, entries_sorted, get-entries}
use Rattle.std.specs.FinMap as finmap
use Rattle.std.specs.FinMap.Entries.{below_all}
use Rattle.keymaps.specs.Names.{Key}
use Rattle.keymaps.specs.Order.{is_above, EachAbove, Skips}
use Rattle.keymaps.specs.Walks.{IsAbsent}
use Rattle.keymaps.proofs.Views.{same_key}
use Rattle.keymaps.proofs.Left.{all_pass, rises}
use Rattle.directory.specs.declared.entry.Entry.{Entry}
use Rattle.directory.specs.declared.entry.Position.{Position}
use Rattle.directory.specs.Entries.{Shape, Shapes, entries_at, entries_of, count_in, count_if_any, with_entry, listing_entries, is_after, is_match, matches, next_entry}
use Rattle.directory.specs.Parts.{file_entries_from, entry_with_count, entries_above}
use Rattle.keymaps.proofs.Rising.{first_of_both, second_of_both, here, begins, ends, find_below, below_less}

abbrev pub or_else : {X : Type 0} → Option X → Option X → Option X
or_else None b = b
or_else (Some a) b = Some a

pub first_append : {X : Type 0} (p : X → Bool) (xs ys : List X) → find p (xs ++ ys) ≡ or_else (find p xs) (find p ys)
first_append p [] ys = refl
first_append p (x ∷ xs) ys = elim (p x) as (λ b. cond b (Some x) (find p (xs ++ ys)) ≡ or_else (cond b (Some x) (find p xs)) (find p ys)) [ true ↦ refl | false ↦ first_append p xs ys ]

-- Two tests that agree on each entry of a key.
abbrev Alike : Key → (Entry → Bool) → (Entry → Bool) → Type 0
Alike k p q = (n c : ℕ) → p (record { key = k; extent = n; count = c }) ≡ q (record { key = k; extent = n; count = c })

alike_with : (k : Key) (e : ℕ) (n : Option ℕ) (p q : Entry → Bool) → Alike k p q → (xs : List Entry) → find p xs ≡ find q xs → find p (with_entry k e n xs) ≡ find q (with_entry k e n xs)
alike_with k e None p q h xs same = same
alike_with k e (Some n) p q h xs same = rw (h e n) (ap (cond (q (record { key = k; extent = e; count = n })) (Some (record { key = k; extent = e; count = n }))) same)

alike_at : (k : Key) (c : ℕ → Option ℕ) (p q : Entry → Bool) → Alike k p q → (es : List ℕ) → find p (entries_at k c es) ≡ find q (entries_at k c es)
alike_at k c p q h [] = refl
alike_at k c p q h (e ∷ es) = alike_with k e (c e) p q h (entries_at k c es) (alike_at k c p q h es)

pub alike_of : (k : Key) (s : Shape) (p q : Entry → Bool) → Alike k p q → find p (entries_of k s) ≡ find q (entries_of k s)
unfolding entries_of
alike_of k s p q h = alike_at k (count_in s) p q h (range_with_len 0 512)

first_passes : {X : Type 0} (xs : List X) → find (λ x. true) xs ≡ slice_get xs 0
first_passes [] = refl
first_passes (x ∷ xs) = refl

nowhere : {X : Type 0} (xs : List X) → find (λ x. false) xs ≡ None
nowhere [] = refl
nowhere (x ∷ xs) = nowhere xs

-- The entries of the file with a key, if there is one.
abbrev pub chunk : Key → Option Shape → List Entry
chunk k None = []
chunk k (Some s) = entries_of k s

pub listed_here : (p : Entry → Bool) (k : Key) (v : Option Shape) (es : List (Key × Shape)) → find p (listing_entries (here k v ++ es)) ≡ or_else (find p (chunk k v)) (find p (listing_entries es))
listed_here p k None es = refl
listed_here p k (Some s) es = first_append p (entries_of k s) (listing_entries es)

-- One turn of the walk over keys: k is the least key that passes, in either tree; there may be no file with key k.
pub turn : (m : Shapes) (test : Entry → Bool) (p : Key → Bool) → ((x y : Key) → p x ≡ true → slice_cmp nat_cmp x y ≡ Less → p y ≡ true) → (k : Key) → p k ≡ true
    → ((x : Key) → p x ≡ true → slice_cmp nat_cmp x k ≡ Less → get m x ≡ None)
    → find test (listing_entries (filter (λ e. p e.0) (entries m))) ≡ or_else (find test (chunk k (get m k))) (find test (listing_entries (filter (λ e. is_lt (slice_cmp nat_cmp k e.0)) (entries m))))
turn m test p up k pk none =
    ap (λ es. find test (listing_entries es)) (begins nat_list_cmp_total same_key p up k pk (entries m) (entries_sorted m) (λ x px l. sym (get-entries m x) ∙ none x px l))
    ∙ listed_here test k _ _
    ∙ ap (λ v. or_else (find test (chunk k v)) (find test (listing_entries (filter (λ e. is_lt (slice_cmp nat_cmp k e.0)) (entries m))))) (sym (get-entries m k))

-- The end of the walk.
pub past_all : (m : Shapes) (test : Entry → Bool) (p : Key → Bool) → ((x : Key) → p x ≡ true → get m x ≡ None) → find test (listing_entries (filter (λ e. p e.0) (entries m))) ≡ None
past_all m test p none =
    ap (λ es. find test (listing_entries es)) (ends nat_list_cmp_total same_key p (entries m) (λ x px. sym (get-entries m x) ∙ none x px))

-- An entry of a later extent that matches.
abbrev pub later : ℕ → Key → ℕ → Entry → Bool
later n pattern ex e = nat_lt n e.extent && matches pattern ex e

parts : (d : Position) (pattern : Key) (ex : ℕ) (es : List (Key × Shape)) → T (is_sorted (slice_cmp nat_cmp) es)
    → find (λ e. is_after (Some d) e && matches pattern ex e) (listing_entries es)
    ≡ or_else (find (later d.extent pattern ex) (chunk d.key (finmap.find (slice_cmp nat_cmp) d.key es))) (find (matches pattern ex) (listing_entries (filter (λ e. is_lt (slice_cmp nat_cmp d.key e.0)) es)))
parts d pattern ex [] h = refl
parts d pattern ex (e ∷ es) h =
    let test : Entry → Bool = λ x. is_after (Some d) x && matches pattern ex x in
    let past = first_of_both (below_all (slice_cmp nat_cmp) e.0 es) (is_sorted (slice_cmp nat_cmp) es) h in
    let rest = second_of_both (below_all (slice_cmp nat_cmp) e.0 es) (is_sorted (slice_cmp nat_cmp) es) h in
    let found = find (later d.extent pattern ex) in
    let fits = find (matches pattern ex) in
    let more : List (Key × Shape) = filter (λ e. is_lt (slice_cmp nat_cmp d.key e.0)) es in
    first_append test (entries_of e.0 e.1) (listing_entries es)
    ∙ ap (or_else (find test (entries_of e.0 e.1))) (parts d pattern ex es rest)
    ∙ elim (slice_cmp nat_cmp d.key e.0) as (λ r. slice_cmp nat_cmp d.key e.0 ≡ r → or_else (find test (entries_of e.0 e.1)) (or_else (found (chunk d.key (finmap.find (slice_cmp nat_cmp) d.key es))) (fits (listing_entries more)))
    ≡ or_else (found (chunk d.key (cond (is_eq r) (Some e.1) (finmap.find (slice_cmp nat_cmp) d.key es)))) (fits (listing_entries (cond (is_lt r) (e ∷ more) more)))) [
      | Less ↦ λ r.
          let none = find_below nat_list_cmp_total same_key d.key es (below_less nat_list_cmp_total same_key d.key e.0 es r past) in
          ap (λ v. or_else v (or_else (found (chunk d.key (finmap.find (slice_cmp nat_cmp) d.key es))) (fits (listing_entries more)))) (alike_of e.0 e.1 test (matches pattern ex) (λ n c. ap (λ r. (is_lt r || (is_eq r && nat_lt d.extent n)) && matches pattern ex (record { key = e.0; extent = n; count = c })) r))
          ∙ ap (λ v. or_else (fits (entries_of e.0 e.1)) (or_else (found (chunk d.key v)) (fits (listing_entries more)))) none
          ∙ sym (first_append (matches pattern ex) (entries_of e.0 e.1) (listing_entries more))
          ∙ ap (λ v. or_else (found (chunk d.key v)) (fits (listing_entries (e ∷ more)))) (sym none)
      | Equal ↦ λ r.
          let none = subst (λ x. finmap.find (slice_cmp nat_cmp) x es ≡ None) (sym (same_key d.key e.0 r)) (find_below nat_list_cmp_total same_key e.0 es past) in
          ap (λ v. or_else v (or_else (found (chunk d.key (finmap.find (slice_cmp nat_cmp) d.key es))) (fits (listing_entries more)))) (alike_of e.0 e.1 test (later d.extent pattern ex) (λ n c. ap (λ r. (is_lt r || (is_eq r && nat_lt d.extent n)) && matches pattern ex (record { key = e.0; extent = n; count = c })) r))
          ∙ ap (λ v. or_else (found (entries_of e.0 e.1)) (or_else (found (chunk d.key v)) (fits (listing_entries more)))) none
          ∙ ap (λ x. or_else (found (entries_of x e.1)) (fits (listing_entries more))) (sym (same_key d.key e.0 r))
      | Greater ↦ λ r.
          ap (λ v. or_else v (or_else (found (chunk d.key (finmap.find (slice_cmp nat_cmp) d.key es))) (fits (listing_entries more))))
          (alike_of e.0 e.1 test (λ x. false) (λ n c. ap (λ r. (is_lt r || (is_eq r && nat_lt d.extent n)) && matches pattern ex (record { key = e.0; extent = n; count = c })) r) ∙ nowhere (entries_of e.0 e.1))
    ] refl

-- Search next: first the later extents of the current file with the last entry's key, then the keys above it.
pub next_after : (d : Position) (pattern : Key) (ex : ℕ) (m : Shapes)
    → next_entry pattern ex (Some d) m ≡ or_else (find (later d.extent pattern ex) (chunk d.key (get m d.key))) (find (matches pattern ex) (listing_entries (filter (λ e. is_lt (slice_cmp nat_cmp d.key e.0)) (entries m))))
next_after d pattern ex m =
    parts d pattern ex (entries m) (entries_sorted m)
    ∙ ap (λ v. or_else (find (later d.extent pattern ex) (chunk d.key v)) (find (matches pattern ex) (listing_entries (filter (λ e. is_lt (slice_cmp nat_cmp d.key e.0)) (entries m))))) (sym (get-entries m d.key))

-- Search first: all keys.
pub next_first : (pattern : Key) (ex : ℕ) (m : Shapes) → next_entry pattern ex None m ≡ find (matches pattern ex) (listing_entries (filter (λ e. true) (entries m)))
next_first pattern ex m = ap (λ es. find (matches pattern ex) (listing_entries es)) (sym (all_pass (entries m)))

-- ---- the extents of one file

no_entries : (k : Key) (es : List ℕ) → entries_at k (count_if_any None) es ≡ []
no_entries k [] = refl
no_entries k (e ∷ es) = no_entries k es

pub chunk_start : (k : Key) (v : Option Shape) → chunk k v ≡ file_entries_from k v 0
unfolding file_entries_from entries_of
chunk_start k None = sym (no_entries k (range_with_len 0 512))
chunk_start k (Some s) = refl

pub chunk_more : (k : Key) (v : Option Shape) (n : ℕ) → n < 512 → file_entries_from k v n ≡ with_entry k n (count_if_any v n) (file_entries_from k v (n + 1))
unfolding file_entries_from
chunk_more k v n l =
    let left : 512 - n ≡ suc (512 - (n + 1)) = omega arith in
    ap (λ m. entries_at k (count_if_any v) (range_with_len n m)) left

none_at : (k : Key) (c : ℕ → Option ℕ) (b a : ℕ) → ((e : ℕ) → a ≤ e → e < a + b → c e ≡ None) → entries_at k c (range_with_len a b) ≡ []
none_at k c zero a h = refl
none_at k c (suc b) a h =
    ap (λ x. with_entry k a x (entries_at k c (range_with_len (a + 1) b))) (h a (omega arith) (omega arith))
    ∙ none_at k c b (a + 1) (λ e l u. h e (omega arith) (omega arith))

-- If no extent from n on has an entry, the list is empty.
pub chunk_past : (k : Key) (v : Option Shape) (n : ℕ) → ((e : ℕ) → n ≤ e → e < 512 → count_if_any v e ≡ None) → file_entries_from k v n ≡ []
unfolding file_entries_from
chunk_past k v n h = none_at k (count_if_any v) (512 - n) n (λ e l u. h e l (omega arith))

pub is_later : (n a : ℕ) → n < a → nat_lt n a ≡ true
is_later n a l = search (rules)

pub not_later : (n a : ℕ) → a ≤ n → nat_lt n a ≡ false
not_later n a l = search (rules)

passed : (k : Key) (n : ℕ) (pattern : Key) (ex : ℕ) (a : ℕ) (x : Option ℕ) (xs : List Entry) → a ≤ n → find (later n pattern ex) (with_entry k a x xs) ≡ find (later n pattern ex) xs
passed k n pattern ex a None xs l = refl
passed k n pattern ex a (Some m) xs l = ap (λ b. cond (b && matches pattern ex (record { key = k; extent = a; count = m })) (Some (record { key = k; extent = a; count = m })) (find (later n pattern ex) xs)) (not_later n a l)

met : (k : Key) (n : ℕ) (pattern : Key) (ex : ℕ) (a : ℕ) (x : Option ℕ) (xs : List Entry) → n < a → find (later n pattern ex) xs ≡ find (matches pattern ex) xs
    → find (later n pattern ex) (with_entry k a x xs) ≡ find (matches pattern ex) (with_entry k a x xs)
met k n pattern ex a None xs l same = same
met k n pattern ex a (Some m) xs l same =
    let e : Entry = record { key = k; extent = a; count = m } in
    ap (λ b. cond (b && matches pattern ex e) (Some e) (find (later n pattern ex) xs)) (is_later n a l) ∙ ap (cond (matches pattern ex e) (Some e)) same

-- In a list that begins past the extent, all entries are later.
all_later : (k : Key) (c : ℕ → Option ℕ) (n : ℕ) (pattern : Key) (ex : ℕ) (a b : ℕ) → n < a → find (later n pattern ex) (entries_at k c (range_with_len a b)) ≡ find (matches pattern ex) (entries_at k c (range_with_len a b))
all_later k c n pattern ex a zero l = refl
all_later k c n pattern ex a (suc b) l = met k n pattern ex a (c a) (entries_at k c (range_with_len (a + 1) b)) l (all_later k c n pattern ex (a + 1) b (omega arith))

-- The entries of the later extents, in a list that begins at the next extent or before it.
later_in : (k : Key) (c : ℕ → Option ℕ) (n : ℕ) (pattern : Key) (ex : ℕ) (b a : ℕ) → a ≤ n + 1
    → find (later n pattern ex) (entries_at k c (range_with_len a b)) ≡ find (matches pattern ex) (entries_at k c (range_with_len (n + 1) (a + b - (n + 1))))
later_in k c n pattern ex zero a low =
    let none : a + 0 - (n + 1) ≡ 0 = omega arith in
    sym (ap (λ m. find (matches pattern ex) (entries_at k c (range_with_len (n + 1) m))) none)
later_in k c n pattern ex (suc b) a low = elim (cases_lt n a) [
  | inl l ↦
      let at : a ≡ n + 1 = omega arith in
      let all : suc b ≡ a + suc b - (n + 1) = omega arith in
      all_later k c n pattern ex a (suc b) l
      ∙ ap (λ m. find (matches pattern ex) (entries_at k c (range_with_len a m))) all
      ∙ ap (λ x. find (matches pattern ex) (entries_at k c (range_with_len x (a + suc b - (n + 1))))) at
  | inr l ↦
      let same : a + 1 + b - (n + 1) ≡ a + suc b - (n + 1) = omega arith in
      passed k n pattern ex a (c a) (entries_at k c (range_with_len (a + 1) b)) l
      ∙ later_in k c n pattern ex b (a + 1) (omega arith)
      ∙ ap (λ m. find (matches pattern ex) (entries_at k c (range_with_len (n + 1) m))) same
]

pub chunk_later : (k : Key) (v : Option Shape) (n : ℕ) (pattern : Key) (ex : ℕ) → find (later n pattern ex) (chunk k v) ≡ find (matches pattern ex) (file_entries_from k v (n + 1))
unfolding file_entries_from entries_of
chunk_later k None n pattern ex = sym (ap (find (matches pattern ex)) (no_entries k (range_with_len (n + 1) (512 - (n + 1)))))
chunk_later k (Some s) n pattern ex = later_in k (count_in s) n pattern ex 512 0 (omega arith)

-- ---- the steps of the code

no_match_at : (k : Key) (c : ℕ → Option ℕ) (pattern : Key) (ex : ℕ) → is_match pattern k ≡ false → (es : List ℕ) → find (matches pattern ex) (entries_at k c es) ≡ None
no_match_at k c pattern ex differs es = alike_at k c (matches pattern ex) (λ x. false) (λ n m. ap (λ b. b && (ex == 63 || ex == n)) differs) es ∙ nowhere (entries_at k c es)

pub no_match : (k : Key) (v : Option Shape) (n : ℕ) (pattern : Key) (ex : ℕ) → is_match pattern k ≡ false → find (matches pattern ex) (file_entries_from k v n) ≡ None
unfolding file_entries_from
no_match k v n pattern ex differs = no_match_at k (count_if_any v) pattern ex differs (range_with_len n (512 - n))

-- If every extent fits, the first match is the first entry.
first_of_any : (k : Key) (c : ℕ → Option ℕ) (pattern : Key) → is_match pattern k ≡ true → (es : List ℕ) → find (matches pattern 63) (entries_at k c es) ≡ slice_get (entries_at k c es) 0
first_of_any k c pattern same es = alike_at k c (matches pattern 63) (λ x. true) (λ n m. ap (λ b. b && true) same) es ∙ first_passes (entries_at k c es)

pub any_extent : (k : Key) (v : Option Shape) (n : ℕ) (pattern : Key) (ex : ℕ) → is_match pattern k ≡ true → ex ≡ 63 → find (matches pattern ex) (file_entries_from k v n) ≡ slice_get (file_entries_from k v n) 0
unfolding file_entries_from
any_extent k v n pattern ex same is =
    ap (λ x. find (matches pattern x) (entries_at k (count_if_any v) (range_with_len n (512 - n)))) is
    ∙ first_of_any k (count_if_any v) pattern same (range_with_len n (512 - n))

-- If one extent fits, the entry of another extent does not match.
passed_over : (k : Key) (e : ℕ) (x : Option ℕ) (pattern : Key) (ex : ℕ) (xs : List Entry) → (ex == 63) ≡ false → (ex == e) ≡ false
    → find (matches pattern ex) (with_entry k e x xs) ≡ find (matches pattern ex) xs
passed_over k e None pattern ex xs one other = refl
passed_over k e (Some n) pattern ex xs one other =
    let d : Entry = record { key = k; extent = e; count = n } in
    ap (λ b. cond (is_match pattern k && (b || ex == e)) (Some d) (find (matches pattern ex) xs)) one
    ∙ ap (λ b. cond (is_match pattern k && b) (Some d) (find (matches pattern ex) xs)) other
    ∙ elim (is_match pattern k) as (λ b. cond (b && false) (Some d) (find (matches pattern ex) xs) ≡ find (matches pattern ex) xs) [ true ↦ refl | false ↦ refl ]

-- The entry of this extent does.
taken_there : (k : Key) (e : ℕ) (x : Option ℕ) (pattern : Key) (ex : ℕ) (xs : List Entry) → is_match pattern k ≡ true → (ex == 63) ≡ false → (ex == e) ≡ true
    → find (matches pattern ex) xs ≡ None → find (matches pattern ex) (with_entry k e x xs) ≡ entry_with_count k e x
taken_there k e None pattern ex xs same one it none = none
taken_there k e (Some n) pattern ex xs same one it none =
    let d : Entry = record { key = k; extent = e; count = n } in
    ap (λ b. cond (b && (ex == 63 || ex == e)) (Some d) (find (matches pattern ex) xs)) same
    ∙ ap (λ b. cond (b || ex == e) (Some d) (find (matches pattern ex) xs)) one
    ∙ ap (λ b. cond b (Some d) (find (matches pattern ex) xs)) it

differ : (m n : ℕ) → (m ≡ n → ⊥) → (m == n) ≡ false
differ m n h = grind (arith, h)

itself : (m n : ℕ) → m ≡ n → (m == n) ≡ true
itself m n e = grind arith

none_past : (k : Key) (c : ℕ → Option ℕ) (pattern : Key) (ex : ℕ) → (ex == 63) ≡ false → (b a : ℕ) → ex < a → find (matches pattern ex) (entries_at k c (range_with_len a b)) ≡ None
none_past k c pattern ex one zero a l = refl
none_past k c pattern ex one (suc b) a l =
    passed_over k a (c a) pattern ex (entries_at k c (range_with_len (a + 1) b)) one (differ ex a (λ e. omega arith))
    ∙ none_past k c pattern ex one b (a + 1) (omega arith)

one_of : (k : Key) (c : ℕ → Option ℕ) (pattern : Key) (ex : ℕ) → is_match pattern k ≡ true → (ex == 63) ≡ false → (b a : ℕ) → a ≤ ex → ex < a + b
    → find (matches pattern ex) (entries_at k c (range_with_len a b)) ≡ entry_with_count k ex (c ex)
one_of k c pattern ex same one zero a l u = absurd (omega arith)
one_of k c pattern ex same one (suc b) a l u = elim (cases_lt a ex) [
  | inl below ↦
      passed_over k a (c a) pattern ex (entries_at k c (range_with_len (a + 1) b)) one (differ ex a (λ e. omega arith))
      ∙ one_of k c pattern ex same one b (a + 1) (omega arith) (omega arith)
  | inr past ↦
      let here : ex ≡ a = omega arith in
      taken_there k a (c a) pattern ex (entries_at k c (range_with_len (a + 1) b)) same one (itself ex a here) (none_past k c pattern ex one b (a + 1) (omega arith))
      ∙ ap (λ n. entry_with_count k n (c n)) (sym here)
]

pub past_extent : (k : Key) (v : Option Shape) (n : ℕ) (pattern : Key) (ex : ℕ) → (ex ≡ 63 → ⊥) → ex < n → find (matches pattern ex) (file_entries_from k v n) ≡ None
unfolding file_entries_from
past_extent k v n pattern ex one l = none_past k (count_if_any v) pattern ex (differ ex 63 one) (512 - n) n l

pub one_extent : (k : Key) (v : Option Shape) (n : ℕ) (pattern : Key) (ex : ℕ) → is_match pattern k ≡ true → (ex ≡ 63 → ⊥) → n ≤ ex → ex < 512
    → find (matches pattern ex) (file_entries_from k v n) ≡ entry_with_count k ex (count_if_any v ex)
unfolding file_entries_from
one_extent k v n pattern ex same one l u = one_of k (count_if_any v) pattern ex same (differ ex 63 one) (512 - n) n l (omega arith)

first_with : (k : Key) (e : ℕ) (x : Option ℕ) (xs : List Entry) → slice_get (with_entry k e x xs) 0 ≡ or_else (entry_with_count k e x) (slice_get xs 0)
first_with k e None xs = refl
first_with k e (Some n) xs = refl

-- One turn over the extents of a file.
pub extent_turn : (k : Key) (v : Option Shape) (n : ℕ) → n < 512 → slice_get (file_entries_from k v n) 0 ≡ or_else (entry_with_count k n (count_if_any v n)) (slice_get (file_entries_from k v (n + 1)) 0)
extent_turn k v n l = ap (λ es. slice_get es 0) (chunk_more k v n l) ∙ first_with k n (count_if_any v n) (file_entries_from k v (n + 1))

pub key_turn : (m : Shapes) (pattern : Key) (ex : ℕ) (after : Option Key) (k : Key) → Skips after (IsAbsent m) (Some k)
    → find (matches pattern ex) (entries_above after m) ≡ or_else (find (matches pattern ex) (file_entries_from k (get m k) 0)) (find (matches pattern ex) (entries_above (Some k) m))
unfolding entries_above
key_turn m pattern ex after k least =
    turn m (matches pattern ex) (is_above after) (rises after) k least.0 least.1
    ∙ ap (λ c. or_else (find (matches pattern ex) c) (find (matches pattern ex) (listing_entries (filter (λ e. is_above (Some k) e.0) (entries m))))) (chunk_start k (get m k))

pub key_end : (m : Shapes) (pattern : Key) (ex : ℕ) (after : Option Key) → EachAbove after (IsAbsent m) → find (matches pattern ex) (entries_above after m) ≡ None
unfolding entries_above
key_end m pattern ex after none = past_all m (matches pattern ex) (is_above after) none

pub search_first : (pattern : Key) (ex : ℕ) (m : Shapes) → next_entry pattern ex None m ≡ find (matches pattern ex) (entries_above None m)
unfolding entries_above
search_first pattern ex m = next_first pattern ex m

pub search_next : (d : Position) (pattern : Key) (ex : ℕ) (m : Shapes)
    → next_entry pattern ex (Some d) m ≡ or_else (find (matches pattern ex) (file_entries_from d.key (get m d.key) (d.extent + 1))) (find (matches pattern ex) (entries_above (Some d.key) m))
unfolding entries_above
search_next d pattern ex m =
    next_after d pattern ex m
    ∙ ap (λ v. or_else v (find (matches pattern ex) (listing_entries (filter (λ e. is_above (Some d.key) e.0) (entries m))))) (chunk_later d.key (get m d.key) d.extent pattern ex)

-- ---- a match that is found, and one that is not

pub taken : {X : Type 0} (a : Option X) (x : X) (b : Option X) → a ≡ Some x → or_else a b ≡ Some x
taken a x b h = ap (λ a. or_else a b) h

pub left_out : {X : Type 0} (a b : Option X) → a ≡ None → or_else a b ≡ b
left_out a b h = ap (λ a. or_else a b) h
