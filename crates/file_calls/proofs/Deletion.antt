-- The keys that a deletion deletes, as a list.
use Rattle.std.proofs.Common.{inl, inr, ◌⊎◌, arith, ◌≡◌, ℕ, suc, Bool, true, false, cond, ◌&&◌, ◌||◌, ◌==◌, List, [], ◌∷◌, map, length, Option, Some, is_some, refl, sym, ap, ◌∙◌, slice_index, nat_lt, drop, Ok}
use Rattle.std.specs.List.{filter, list_any}
use Rattle.std.specs.Ordering.{nat_cmp, eq_by_cmp}
use Rattle.std.specs.Cmp.Lexicographic.{slice_cmp, nat_list_cmp_total}
use Rattle.std.specs.FinMap.{get, entries, get-insert, get-entries, same_map}
use Rattle.std.specs.FinMap.Entries.{is_some-find}
use Rattle.std.proofs.lemmas.Map.Views.{any-filter_same}
use Rattle.hostfiles.specs.Drives.{drive_number}
use Rattle.hostfiles.proofs.Views.{same_key, key_of}
use Rattle.hostfiles.proofs.Walk.{is_later}
use Rattle.hostfiles.specs.Entries.{Listing, is_match, fits_name}
use Rattle.hostfiles.specs.Hosts.{Key, Host}
use Rattle.hostfiles.specs.Files.{OwnFiles, has, gone_entry, after_delete, shapes}
use Rattle.hostfiles.specs.FileLooks.{look_has, look_directory, HasNewAsk, KeepsAsks}
use Rattle.std.proofs.Math.Bool.{or-false, and-true, and-false}
use Rattle.hostfiles.specs.declared.journal.Entry.{Entry}
use Rattle.hostfiles.proofs.DeleteLemmas.{there}
use Rattle.cpmfiles.specs.Tables as tables
use Rattle.cpmfiles.specs.Tables.{is_named, count_deleted, look_delete}
use Rattle.cpmfiles.specs.Renaming.{has_wildcard}
use Rattle.interaction_trees.specs.Tree.{Query, Return, questions_of, result_of}
use Rattle.file_calls.specs.declared.block.Block.{Block}
use Rattle.file_calls.specs.FileQuestions.{IsThere, FilesOn, is_on, files_on}
use Rattle.file_calls.specs.TableView.{TableView, file_answers, look_for_all}
use Rattle.file_calls.specs.Findings as calls
use Rattle.file_calls.specs.Findings.{matching_keys, deletion}
use Rattle.file_calls.specs.Deletes.{Deletes, own_without}
use Rattle.file_calls.specs.Changes.{is_some_named}

-- Whether a key is in a list.
abbrev is_listed : Key → List Key → Bool
is_listed q keys = list_any (eq_by_cmp (slice_cmp nat_cmp) q) keys

taken_twice : (a b : Bool) (x r : Option Entry) → cond a x (cond b x r) ≡ cond (b || a) x r
taken_twice true true x r = refl
taken_twice true false x r = refl
taken_twice false true x r = refl
taken_twice false false x r = refl

-- What is own of a key after the keys of a list were deleted.
get-without : (keys : List Key) (own : OwnFiles) (q : Key) → get (own_without own keys) q ≡ cond (is_listed q keys) (Some gone_entry) (get own q)
get-without [] own q = refl
get-without (key ∷ keys) own q =
    get-without keys (after_delete own key) q
    ∙ ap (cond (is_listed q keys) (Some gone_entry)) (get-insert nat_list_cmp_total own key gone_entry q)
    ∙ taken_twice (is_listed q keys) (eq_by_cmp (slice_cmp nat_cmp) q key) (Some gone_entry) (get own q)

keys_filtered : (p : Key → Bool) (es : Listing) → map (λ e. e.0) (filter (λ e. p e.0) es) ≡ filter p (map (λ e. e.0) es)
keys_filtered p [] = refl
keys_filtered p (e ∷ es) = elim (p e.0) as (λ b. map (λ e. e.0) (cond b (e ∷ filter (λ e. p e.0) es) (filter (λ e. p e.0) es)) ≡ cond b (e.0 ∷ filter p (map (λ e. e.0) es)) (filter p (map (λ e. e.0) es)))
    [ true ↦ ap (λ ks. e.0 ∷ ks) (keys_filtered p es) | false ↦ keys_filtered p es ]

-- A test has the same result for keys that compare as equal.
alike : (p : Key → Bool) (q k : Key) → eq_by_cmp (slice_cmp nat_cmp) q k ≡ true → p k ≡ p q
alike p q k e = ap p (sym (key_of same_key q k e))

once : (a f h : Bool) → ((a && f) && (a && h)) ≡ ((a && f) && h)
once true f h = refl
once false f h = refl

listed_names : (host : Host) (own : OwnFiles) (pattern q : Key) → is_listed q (matching_keys pattern (files_on (slice_index pattern 0) (shapes host own))) ≡ (is_match pattern q && has host own q)
unfolding files_on
listed_names host own pattern q =
    let all = entries (shapes host own) in
    let on = is_on (slice_index pattern 0) in
    ap (λ ks. is_listed q (filter (is_match pattern) ks)) (keys_filtered on all)
    ∙ any-filter_same (eq_by_cmp (slice_cmp nat_cmp) q) (is_match pattern) (is_match pattern q) (alike (is_match pattern) q) (filter on (map (λ e. e.0) all))
    ∙ ap (λ b. is_match pattern q && b) (any-filter_same (eq_by_cmp (slice_cmp nat_cmp) q) on (on q) (alike on q) (map (λ e. e.0) all)
    ∙ ap (λ b. on q && b) (sym (is_some-find (slice_cmp nat_cmp) q all) ∙ ap is_some (sym (get-entries (shapes host own) q)) ∙ there host own q))
    ∙ once (slice_index pattern 0 == slice_index q 0) (fits_name (drop 1 pattern) (drop 1 q)) (has host own q)

-- As many entries match as there are matching keys.
counted_on : (m on : Key → Bool) → ((k : Key) → m k ≡ true → on k ≡ true) → (es : Listing) → length (filter m (filter on (map (λ e. e.0) es))) ≡ length (filter (λ e. m e.0) es)
counted_on m on h [] = refl
counted_on m on h (e ∷ es) = by_case (on e.0) (m e.0) (h e.0) refl refl (counted_on m on h es) where
  by_case : (b c : Bool) → (c ≡ true → b ≡ true) → on e.0 ≡ b → m e.0 ≡ c → length (filter m (filter on (map (λ e. e.0) es))) ≡ length (filter (λ e. m e.0) es)
      → length (filter m (cond b (e.0 ∷ filter on (map (λ e. e.0) es)) (filter on (map (λ e. e.0) es)))) ≡ length (cond c (e ∷ filter (λ e. m e.0) es) (filter (λ e. m e.0) es))
  by_case true true f x y more = ap (λ b. length (cond b (e.0 ∷ filter m (filter on (map (λ e. e.0) es))) (filter m (filter on (map (λ e. e.0) es))))) y ∙ ap suc more
  by_case true false f x y more = ap (λ b. length (cond b (e.0 ∷ filter m (filter on (map (λ e. e.0) es))) (filter m (filter on (map (λ e. e.0) es))))) y ∙ more
  by_case false true f x y more = let no : false ≡ true = f refl in cc
  by_case false false f x y more = more

some_named : (ks : List Key) → nat_lt 0 (length ks) ≡ is_some_named ks
some_named [] = refl
some_named (k ∷ ks) = is_later 0 (length (k ∷ ks)) (omega arith)

-- The list of a single key, if there is a file with it.
one_listed : (host : Host) (own : OwnFiles) (key q : Key) → is_listed q (cond (has host own key) (key ∷ []) []) ≡ (eq_by_cmp (slice_cmp nat_cmp) q key && has host own q)
one_listed host own key q = by_case (eq_by_cmp (slice_cmp nat_cmp) q key) refl where
  by_there : (b : Bool) → is_listed q (cond b (key ∷ []) []) ≡ (b && eq_by_cmp (slice_cmp nat_cmp) q key)
  by_there true = or-false (eq_by_cmp (slice_cmp nat_cmp) q key)
  by_there false = refl

  by_case : (b : Bool) → eq_by_cmp (slice_cmp nat_cmp) q key ≡ b → is_listed q (cond (has host own key) (key ∷ []) []) ≡ (b && has host own q)
  by_case true e = by_there (has host own key) ∙ ap (λ b. has host own key && b) e ∙ and-true (has host own key) ∙ ap (has host own) (sym (key_of same_key q key e))
  by_case false e = by_there (has host own key) ∙ ap (λ b. has host own key && b) e ∙ and-false (has host own key)

-- Two changes that own the same of each key are equal.
same_own : (host : Host) (own after : OwnFiles) (names : List Key) (named : Key → Bool) → ((q : Key) → get after q ≡ cond (named q && has host own q) (Some gone_entry) (get own q))
    → ((q : Key) → is_listed q names ≡ (named q && has host own q)) → after ≡ own_without own names
same_own host own after names named at listed = same_map nat_list_cmp_total same_key after (own_without own names) (λ q.
    at q ∙ ap (λ b. cond b (Some gone_entry) (get own q)) (sym (listed q)) ∙ sym (get-without names own q))

count_there : (b : Bool) (key : Key) → nat_lt 0 (cond b 1 0) ≡ is_some_named (cond b (key ∷ []) [])
count_there true key = refl
count_there false key = refl

on_its_drive : (pattern k : Key) → is_match pattern k ≡ true → is_on (slice_index pattern 0) k ≡ true
on_its_drive pattern k = elim (slice_index pattern 0 == slice_index k 0) as (λ b. (b && fits_name (drop 1 pattern) (drop 1 k)) ≡ true → b ≡ true) [ true ↦ λ e. refl | false ↦ λ e. e ]

count_listed : (host : Host) (own : OwnFiles) (pattern : Key) → length (filter (λ e. is_match pattern e.0) (entries (shapes host own))) ≡ length (matching_keys pattern (files_on (slice_index pattern 0) (shapes host own)))
unfolding files_on
count_listed host own pattern =
    sym (ap (λ ks. length (filter (is_match pattern) ks)) (keys_filtered (is_on (slice_index pattern 0)) (entries (shapes host own)))
    ∙ counted_on (is_match pattern) (is_on (slice_index pattern 0)) (on_its_drive pattern) (entries (shapes host own)))

module _ (b : Block) (v v' : TableView) (n : ℕ) where
  abbrev key : Key
  key = calls.key_of b

  pub deletes : n ≡ count_deleted v.host v.own key → tables.NamedAreGone v.host v.own key v'.own → v'.looks ≡ look_delete v.own key v.looks → KeepsAsks v.looks v'.looks → v'.host ≡ v.host → v'.lender ≡ v.lender
      → Deletes (deletion b) v (Ok (nat_lt 0 n)) v'
  deletes count d looks extends host lender = by_case (has_wildcard key) count d.at looks where
    by_case : (w : Bool) → n ≡ cond w (length (filter (λ e. is_match key e.0) (entries (shapes v.host v.own)))) (cond (has v.host v.own key) 1 0)
        → ((q : Key) → get v'.own q ≡ cond (cond w (is_match key q) (eq_by_cmp (slice_cmp nat_cmp) q key) && has v.host v.own q) (Some gone_entry) (get v.own q))
        → v'.looks ≡ cond w (look_directory (slice_index key 0) v.looks) (look_has v.own key v.looks)
        → Deletes (cond w (Query (FilesOn (drive_number b.drive)) (λ files. Return (matching_keys key files))) (Query (IsThere key) (λ there. Return (cond there (key ∷ []) [])))) v (Ok (nat_lt 0 n)) v'
    by_case true c at l = record {
      found = ap (nat_lt 0) (c ∙ count_listed v.host v.own key) ∙ some_named (matching_keys key (files_on (drive_number b.drive) (shapes v.host v.own)));
      own = same_own v.host v.own v'.own (matching_keys key (files_on (drive_number b.drive) (shapes v.host v.own))) (is_match key) at (listed_names v.host v.own key);
      looks = l;
      err_own = tt;
      extends = extends;
      bound = tt;
      refused = tt;
      host = host;
      lender = lender;
    }
    by_case false c at l = record {
      found = ap (nat_lt 0) c ∙ count_there (has v.host v.own key) key;
      own = same_own v.host v.own v'.own (cond (has v.host v.own key) (key ∷ []) []) (λ q. eq_by_cmp (slice_cmp nat_cmp) q key) at (one_listed v.host v.own key);
      looks = l;
      err_own = tt;
      extends = extends;
      bound = tt;
      refused = tt;
      host = host;
      lender = lender;
    }

  -- What a deletion needs memory for.
  pub refuses : HasNewAsk v.looks (look_delete v.own key v.looks) ⊎ (nat_lt 0 (count_deleted v.host v.own key) ≡ true)
      → HasNewAsk v.looks (look_for_all v.own (questions_of (file_answers v.host v.own) (deletion b)) v.looks)
      ⊎ (is_some_named (result_of (file_answers v.host v.own) (deletion b)) ≡ true)
  refuses = by_case (has_wildcard key) where
    by_case : (w : Bool)
        → HasNewAsk v.looks (cond w (look_directory (slice_index key 0) v.looks) (look_has v.own key v.looks))
        ⊎ (nat_lt 0 (cond w (length (filter (λ e. is_match key e.0) (entries (shapes v.host v.own)))) (cond (has v.host v.own key) 1 0)) ≡ true)
        → HasNewAsk v.looks (look_for_all v.own (questions_of (file_answers v.host v.own) (cond w (Query (FilesOn (drive_number b.drive)) (λ files. Return (matching_keys key files))) (Query (IsThere key) (λ there. Return (cond there (key ∷ []) []))))) v.looks)
        ⊎ (is_some_named (result_of (file_answers v.host v.own) (cond w (Query (FilesOn (drive_number b.drive)) (λ files. Return (matching_keys key files))) (Query (IsThere key) (λ there. Return (cond there (key ∷ []) []))))) ≡ true)
    by_case true (inl new) = inl new
    by_case true (inr some) = inr (sym (some_named (matching_keys key (files_on (drive_number b.drive) (shapes v.host v.own)))) ∙ sym (ap (nat_lt 0) (count_listed v.host v.own key)) ∙ some)
    by_case false (inl new) = inl new
    by_case false (inr some) = inr (sym (count_there (has v.host v.own key) key) ∙ some)
