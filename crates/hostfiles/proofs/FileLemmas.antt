-- The file that the map of all files has at a key, and how the map changes.
use Rattle.std.proofs.Common.{◌≡◌, Bool, true, false, cond, is_some, List, [], ◌∷◌, ◌++◌, ◌||◌, Some, None, Option, refl, ap, sym, ◌∙◌, unwrap_or}
use Rattle.std.specs.Option.{option_map}
use Rattle.std.specs.List.{list_any}
use Rattle.std.specs.Ordering.{nat_cmp, eq_by_cmp}
use Rattle.std.specs.Cmp.Lexicographic.{slice_cmp, nat_list_cmp_total}
use Rattle.std.specs.FinMap.{FinMap, get, insert, keys, contains_key-keys, get-insert, get-remove, get-empty, remove, same_map}
use Rattle.hostfiles.specs.Hosts.{Key, Host}
use Rattle.hostfiles.specs.Files.{OwnFiles, map_from_keys, file_at, files, shape_at, shapes, is_there, file_of, untouched_entry, new_entry, gone_entry, after_make, after_delete}
use Rattle.hostfiles.specs.File.{shape_of}
use Rattle.hostfiles.specs.declared.journal.Entry.{Entry}
use Rattle.keymaps.proofs.Views.{same_key, key_of, absent_of}

module _ {X : Type 0} where
  pick : (b a : Bool) (x : X) (g r : Option X) → (b ≡ true → Some x ≡ g) → r ≡ cond a g None → cond b (Some x) r ≡ cond (b || a) g None
  pick true a x g r same h = same refl
  pick false a x g r same h = h

  miss : (b a : Bool) (g r : Option X) → (b ≡ true → None ≡ g) → r ≡ cond a g None → r ≡ cond (b || a) g None
  miss true true g r same h = h
  miss true false g r same h = h ∙ same refl
  miss false a g r same h = h

  step : (m : FinMap (slice_cmp nat_cmp) X) (k q : Key) (f g : Option X) (a : Bool) → (eq_by_cmp (slice_cmp nat_cmp) q k ≡ true → f ≡ g) → get m q ≡ cond a g None
      → get (unwrap_or (option_map (insert m k) f) m) q ≡ cond (eq_by_cmp (slice_cmp nat_cmp) q k || a) g None
  step m k q (Some x) g a same h = get-insert nat_list_cmp_total m k x q ∙ pick (eq_by_cmp (slice_cmp nat_cmp) q k) a x g (get m q) same h
  step m k q None g a same h = miss (eq_by_cmp (slice_cmp nat_cmp) q k) a g (get m q) same h

  -- The value of f at each key of the list.
  get-among : (f : Key → Option X) (ks : List Key) (q : Key) → get (map_from_keys f ks) q ≡ cond (list_any (eq_by_cmp (slice_cmp nat_cmp) q) ks) (f q) None
  get-among f [] q = get-empty (slice_cmp nat_cmp) q
  get-among f (k ∷ ks) q =
      step (map_from_keys f ks) k q (f k) (f q) (list_any (eq_by_cmp (slice_cmp nat_cmp) q) ks)
      (λ e. ap f (sym (key_of same_key q k e))) (get-among f ks q)

  whole : (a b : Bool) (x : Option X) → (a ≡ false → b ≡ false → x ≡ None) → cond (a || b) x None ≡ x
  whole true b x h = refl
  whole false true x h = refl
  whole false false x h = sym (h refl refl)

grouped : (a b c d : Bool) → b ≡ (c || d) → (a || b) ≡ ((a || c) || d)
grouped true b c d h = refl
grouped false b c d h = h

pub any_append : {X : Type 0} (p : X → Bool) (xs ys : List X) → list_any p (xs ++ ys) ≡ (list_any p xs || list_any p ys)
any_append p [] ys = refl
any_append p (x ∷ xs) ys = grouped (p x) (list_any p (xs ++ ys)) (list_any p xs) (list_any p ys) (any_append p xs ys)

-- The value of f at each key, if f has no value at a key that neither map has.
pub get-over : {X : Type 0} (host : Host) (own : OwnFiles) (f : Key → Option X) → ((q : Key) → get host q ≡ None → get own q ≡ None → f q ≡ None)
    → (q : Key) → get (map_from_keys f (keys host ++ keys own)) q ≡ f q
get-over host own f h q =
    get-among f (keys host ++ keys own) q ∙ ap (λ b. cond b (f q) None) (any_append (eq_by_cmp (slice_cmp nat_cmp) q) (keys host) (keys own))
    ∙ whole (list_any (eq_by_cmp (slice_cmp nat_cmp) q) (keys host)) (list_any (eq_by_cmp (slice_cmp nat_cmp) q) (keys own)) (f q)
    (λ d e. h q (absent_of (get host q) (contains_key-keys host q ∙ d)) (absent_of (get own q) (contains_key-keys own q ∙ e)))

-- There is no file with a key that neither map has.
pub no_file : (host : Host) (own : OwnFiles) (q : Key) → get host q ≡ None → get own q ≡ None → file_at host own q ≡ None
no_file host own q d e =
    ap (λ x. cond (is_there host q (unwrap_or x untouched_entry).base) (Some (file_of host q (unwrap_or x untouched_entry))) None) e
    ∙ ap (λ b. cond (is_some b) (Some (file_of host q untouched_entry)) None) d

pub no_shape : (host : Host) (own : OwnFiles) (q : Key) → get host q ≡ None → get own q ≡ None → shape_at host own q ≡ None
no_shape host own q d e = ap (option_map shape_of) (no_file host own q d e)

pub get-files : (host : Host) (own : OwnFiles) (q : Key) → get (files host own) q ≡ file_at host own q
unfolding files
get-files host own q = get-over host own (file_at host own) (no_file host own) q

pub get-shapes : (host : Host) (own : OwnFiles) (q : Key) → get (shapes host own) q ≡ shape_at host own q
unfolding shapes
get-shapes host own q = get-over host own (shape_at host own) (no_shape host own) q

made_at : (host : Host) (q : Key) (b : Bool) (x : Option Entry) → cond (is_there host q (unwrap_or (cond b (Some new_entry) x) untouched_entry).base) (Some (file_of host q (unwrap_or (cond b (Some new_entry) x) untouched_entry))) None ≡ cond b (Some []) (cond (is_there host q (unwrap_or x untouched_entry).base) (Some (file_of host q (unwrap_or x untouched_entry))) None)
made_at host q true x = refl
made_at host q false x = refl

-- A file that is made is empty, and the others are unchanged.
pub files-made : (host : Host) (own : OwnFiles) (key : Key) → files host (after_make own key) ≡ insert (files host own) key []
files-made host own key = same_map nat_list_cmp_total same_key _ _ (λ q.
    get-files host (after_make own key) q
    ∙ ap (λ x. cond (is_there host q (unwrap_or x untouched_entry).base) (Some (file_of host q (unwrap_or x untouched_entry))) None) (get-insert nat_list_cmp_total own key new_entry q)
    ∙ made_at host q (eq_by_cmp (slice_cmp nat_cmp) q key) (get own q)
    ∙ ap (cond (eq_by_cmp (slice_cmp nat_cmp) q key) (Some [])) (sym (get-files host own q))
    ∙ sym (get-insert nat_list_cmp_total (files host own) key [] q))

gone_at : (host : Host) (q : Key) (b : Bool) (x : Option Entry) → cond (is_there host q (unwrap_or (cond b (Some gone_entry) x) untouched_entry).base) (Some (file_of host q (unwrap_or (cond b (Some gone_entry) x) untouched_entry))) None ≡ cond b None (cond (is_there host q (unwrap_or x untouched_entry).base) (Some (file_of host q (unwrap_or x untouched_entry))) None)
gone_at host q true x = refl
gone_at host q false x = refl

-- A file that is deleted is gone, and the others are unchanged.
pub files-deleted : (host : Host) (own : OwnFiles) (key : Key) → files host (after_delete own key) ≡ remove (files host own) key
files-deleted host own key = same_map nat_list_cmp_total same_key _ _ (λ q.
    get-files host (after_delete own key) q
    ∙ ap (λ x. cond (is_there host q (unwrap_or x untouched_entry).base) (Some (file_of host q (unwrap_or x untouched_entry))) None) (get-insert nat_list_cmp_total own key gone_entry q)
    ∙ gone_at host q (eq_by_cmp (slice_cmp nat_cmp) q key) (get own q)
    ∙ ap (cond (eq_by_cmp (slice_cmp nat_cmp) q key) None) (sym (get-files host own q))
    ∙ sym (get-remove nat_list_cmp_total (files host own) key q))

-- ---- a walk over keys

-- There is no shape at a key that neither map has.
pub nothing_listed : (host : Host) (own : OwnFiles) (x : Key) → (get host x ≡ None) × (get own x ≡ None) → get (shapes host own) x ≡ None
nothing_listed host own x h = get-shapes host own x ∙ no_shape host own x h.0 h.1
