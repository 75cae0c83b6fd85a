-- Lists that grow at their end by the parts of keys.
use Rattle.std.proofs.Common.{◌≡◌, ℕ, refl, List, [], ◌∷◌, ◌++◌, filter, get_or, slice_index, Option, Some, None, is_some, true, false, subst, ap, sym, ◌∙◌, append_assoc, append-nil}
use Rattle.std.specs.List.{flat_map}
use Rattle.std.specs.Ordering.{nat_cmp}
use Rattle.std.specs.Cmp.Lexicographic.{slice_cmp}
use Rattle.std.specs.FinMap.{FinMap, get, contains_key}
use Rattle.keymaps.specs.Order.{IsLeastAbove, Skips}
use Rattle.keymaps.specs.Walks.{IsAbsent}
use Rattle.filenames.specs.Names.{Key}
use Rattle.folders.specs.FileSystem.{Path}
use Rattle.folders.specs.declared.drive_folder.DriveFolder.{DriveFolder}
use Rattle.hostfiles.specs.Hosts.{Host}
use Rattle.make_rules.specs.Files.{comment_on_absent, folder_of_absent, is_absent, paths_in_call}
use Rattle.make_rules.specs.Paths.{Adds, AddsAbsent}
use Rattle.make_rules.specs.Rule.{Needs}
use Rattle.hostfiles.proofs.ChangedWalk.{keys_above, keys_above_least, keys_above_end}

-- ---- parts one after the other, of which the first ones are there

module _ {X Y : Type 0} (part : X → List Y) (before text whole : List Y) (xs : List X) where
  pub part_next : (x : X) (rest : List X) → text ≡ before ++ part x → xs ≡ x ∷ rest → before ++ flat_map part xs ≡ whole → text ++ flat_map part rest ≡ whole
  part_next x rest grown split left =
      ap (λ t. t ++ flat_map part rest) grown ∙ append_assoc before (part x) (flat_map part rest) ∙ ap (λ ys. before ++ flat_map part ys) (sym split) ∙ left

  pub part_end : xs ≡ [] → before ++ flat_map part xs ≡ whole → before ≡ whole
  part_end none left = sym (append-nil before) ∙ ap (λ ys. before ++ flat_map part ys) (sym none) ∙ left

-- ---- what a rule says about files that are not there

pub added_none : (n : Needs) → Adds [] [] [] n n
added_none n = record { program = refl; others = sym (append-nil n.others); missing = sym (append-nil n.missing); comments = sym (append-nil n.comments) }

added_both : (a b d e : List Path) (c f : List ℕ) (x y z : Needs) → Adds a b c x y → Adds d e f y z → Adds (a ++ d) (b ++ e) (c ++ f) x z
added_both a b d e c f x y z p q = record {
  program = q.program ∙ p.program;
  others = q.others ∙ ap (λ t. t ++ d) p.others ∙ append_assoc x.others a d;
  missing = q.missing ∙ ap (λ t. t ++ e) p.missing ∙ append_assoc x.missing b e;
  comments = q.comments ∙ ap (λ t. t ++ f) p.comments ∙ append_assoc x.comments c f;
}

-- One more key, of a file that is there or not.
module _ (targets : List Path) (drives : List (Option DriveFolder)) (host : Host) (key : Key) (keys rest : List Key) (split : keys ≡ key ∷ rest) where
  abbrev AddsThose : List Key → Needs → Needs → Type 0
  AddsThose ks = AddsAbsent targets drives (filter (is_absent host) ks)

  pub there_next : (x z : Needs) → is_absent host key ≡ false → AddsThose rest x z → AddsThose keys x z
  there_next x z e h =
      let same : filter (is_absent host) (key ∷ rest) ≡ filter (is_absent host) rest = rw e refl in
      subst (λ ks. AddsAbsent targets drives ks x z) (sym (ap (filter (is_absent host)) split ∙ same)) h

  pub absent_next : (x y z : Needs) → is_absent host key ≡ true
      → (let d = get_or drives (slice_index key 0) None in Adds (folder_of_absent targets d key) (paths_in_call targets d key) (comment_on_absent d key) x y)
      → AddsThose rest y z → AddsThose keys x z
  absent_next x y z e one h =
      let both : AddsAbsent targets drives (key ∷ filter (is_absent host) rest) x z = added_both _ _ _ _ _ _ x y z one h in
      let same : filter (is_absent host) (key ∷ rest) ≡ key ∷ filter (is_absent host) rest = rw e refl in
      subst (λ ks. AddsAbsent targets drives ks x z) (sym (ap (filter (is_absent host)) split ∙ same)) both

-- ---- the keys of a map above a bound

absent : {X : Type 0} (o : Option X) → is_some o ≡ false → o ≡ None
absent None h = refl
absent (Some x) h = cc

module _ {X : Type 0} (m : FinMap (slice_cmp nat_cmp) X) (after : Option Key) where
  pub keys_next : (k : Key) → IsLeastAbove after (contains_key m) (Some k) → keys_above m after ≡ k ∷ keys_above m (Some k)
  keys_next k l = keys_above_least m after k l.1 (l.0, λ x a b. absent (get m x) (l.2 x a b))

  pub keys_end : IsLeastAbove after (contains_key m) None → keys_above m after ≡ []
  keys_end n = keys_above_end m after (λ x a. absent (get m x) (n x a))

  pub keys_least : (k : Key) (v : X) → get m k ≡ Some v → Skips after (IsAbsent m) (Some k) → keys_above m after ≡ k ∷ keys_above m (Some k)
  keys_least k v there next = keys_above_least m after k (ap is_some there) next
