-- A rule can have the paths that a run puts in place.
use Rattle.std.proofs.Common.{◌≡◌, ◌&&◌, ◌||◌, ℕ, Bool, true, false, cond, List, [], ◌∷◌, ◌++◌, map, is_some, unwrap_or, ap, refl, sym, subst, ◌∙◌, Option, Some, None}
use Rattle.std.specs.Borrow.{Bor}
use Rattle.std.specs.Cmp.{eq_by_cmp_equiv}
use Rattle.std.specs.Cmp.Lexicographic.{slice_cmp, nat_list_cmp_total}
use Rattle.std.specs.FinMap.{contains_key, contains_key-keys, get, get-retain_keys}
use Rattle.std.specs.List.{concat, flat_map, list_all, list_any}
use Rattle.std.specs.Ordering.{eq_by_cmp, nat_cmp}
use Rattle.std.specs.Prelude.{IfSome}
use Rattle.std.proofs.lemmas.Bool.{and_from, false≢true}
use Rattle.std.proofs.lemmas.List.Concat.{flat_map-append}
use Rattle.std.proofs.lemmas.List.Folds.{list_all-append, list_any-append}
use Rattle.command_words.specs.RunLine.{session_words}
use Rattle.command_words.specs.declared.words.Words.{Words}
use Rattle.folders.specs.DriveFolders.{folders_with, seen}
use Rattle.folders.specs.FileSystem.{Path}
use Rattle.folders.specs.Places.{place_of, removed_place_of}
use Rattle.folders.specs.declared.listing.Listing.{Listing}
use Rattle.folders.specs.declared.places.Places.{Places}
use Rattle.hostfiles.specs.Hosts.{Host}
use Rattle.hostfiles.specs.Names.{Key, is_sayable}
use Rattle.hostfiles.proofs.Views.{same_key}
use Rattle.machine.specs.ChangedFiles.{contents_in, changed_in, changed_keys_in, is_changed_in, is_changed_name_in, keys_of_both}
use Rattle.machine.specs.PlainFiles.{Files}
use Rattle.make_rules.specs.Carried.{is_carried}
use Rattle.make_rules.specs.RefusedPaths.{is_refused_folder, refuses_rule}
use Rattle.make_rules.proofs.PlacePaths.{AllowsPlaces, IsCarriedAt, four, placed}
use Rattle.make_rules.proofs.RunPaths.{AreAllowed, are_allowed, four_drives, neither}
use Rattle.one_run.specs.ChangedList.{Changed, changed_at, changed_list, changed_with, expected_at, is_turn, path_for, planned, planned_for, wanted_at}
use Rattle.one_run.specs.declared.reporting.Disks.{Disks}
use Rattle.one_run.specs.declared.reporting.Disks.TheVariants as became
use Rattle.one_run.specs.declared.planning.Turn.{Turn}
use Rattle.one_run.specs.declared.planning.Turn.TheVariants.{New, Outside, Replacing}
use Rattle.plan.specs.Wanted.{Wanted}
use Rattle.cpmrun.specs.Reports.{AllowsRule, chosen, or_rule, put_path, put_paths, rule_path, targets_of, written_folders}
use Rattle.cpmrun.specs.RunEnds.{ArePlaces, disk_puts, on_disks, puts}

-- ---- lists of deeds

abbrev AllCarried : List Wanted → Type 0
AllCarried plan = list_all is_carried (put_paths plan) ≡ true

pub paths_joined : (xs ys : List Wanted) → put_paths (xs ++ ys) ≡ put_paths xs ++ put_paths ys
paths_joined xs ys = flat_map-append (λ (w : Wanted). put_path w.path w.contents) xs ys

joined : (xs ys : List Wanted) → AllCarried xs → AllCarried ys → AllCarried (xs ++ ys)
joined xs ys p q =
    ap (list_all is_carried) (paths_joined xs ys) ∙ list_all-append is_carried (put_paths xs) (put_paths ys)
    ∙ and_from (list_all is_carried (put_paths xs)) (list_all is_carried (put_paths ys)) p q

-- ---- one file

module _ (p : Places) (host : Host) (bytes : List ℕ) (key : Key) where
  put_at : (o : Option Path) → IsCarriedAt o → AllCarried (wanted_at o (changed_with p host true bytes key))
  put_at None h = refl
  put_at (Some path) h = and_from (is_carried path) true h refl

  removed_at : (o : Option Path) → AllCarried (wanted_at o (changed_with p host false bytes key))
  removed_at None = refl
  removed_at (Some path) = refl

  one_file : (its_turn there : Bool) → IsCarriedAt (place_of p key) → AllCarried (cond its_turn (wanted_at (path_for p there key) (changed_with p host there bytes key)) [])
  one_file false there h = refl
  one_file true true h = put_at (place_of p key) h
  one_file true false h = removed_at (removed_place_of p key)

-- ---- all files

abbrev is_key : Key → Key → Bool
is_key = eq_by_cmp (slice_cmp nat_cmp)

or_left : (a b : Bool) → a ≡ true → (a || b) ≡ true
or_left a b h = ap (λ t. t || b) h

or_right : (a b : Bool) → b ≡ true → (a || b) ≡ true
or_right true b h = refl
or_right false b h = h

each : (part : Changed → List Wanted) (make : Key → Changed) (keys : List Key) → ((key : Key) → list_any (is_key key) keys ≡ true → AllCarried (part (make key)))
    → AllCarried (flat_map part (map make keys))
each part make [] h = refl
each part make (k ∷ ks) h =
    joined (part (make k)) (flat_map part (map make ks)) (h k (or_left (is_key k k) (list_any (is_key k) ks) ((eq_by_cmp_equiv nat_list_cmp_total).refl k)))
    (each part make ks (λ key there. h key (or_right (is_key key k) (list_any (is_key key) ks) there)))

kept : {X : Type 0} (changed valid : Bool) (o : Option X) → is_some (cond (changed && valid) o None) ≡ true → valid ≡ true
kept true true o h = refl
kept true false o h = absurd (false≢true h)
kept false valid o h = absurd (false≢true h)

sayable : (host : Host) (files : Files) (key : Key) → list_any (is_key key) (changed_keys_in host files) ≡ true → is_sayable key ≡ true
sayable host files key h =
    let both = keys_of_both host files in
    let changed = get-retain_keys both (is_changed_name_in host files) key (λ x e. ap (is_changed_name_in host files) (sym (same_key key x e))) in
    kept (is_changed_in host files key) (is_sayable key) (get both key) (ap is_some (sym changed) ∙ contains_key-keys (changed_in host files) key ∙ h)

in_turn : (turn : Turn) (p : Places) (host : Host) (files : Files) → AllowsPlaces p → AllCarried (planned turn (changed_list p host files))
in_turn turn p host files a = each (planned_for turn) (changed_at p host files) (changed_keys_in host files) (λ key there.
    let h = sayable host files key there in
    one_file p host (concat (unwrap_or (contents_in files key) [])) key (is_turn turn (contains_key files key) (expected_at p host key)) (contains_key files key) (placed p key a h))

-- The same on disks, unless they stay unchanged.
on_disks_carried : (disks : Disks) (plan : List Wanted) → AllCarried plan → AllCarried (on_disks disks plan)
on_disks_carried became.Unchanged plan h = refl
on_disks_carried became.Absent plan h = h
on_disks_carried became.Changed plan h = h

-- ---- the words

written_allowed : (w : Words) (deps : Option (Bor Path)) → IfSome deps (λ path. refuses_rule (session_words w) (rule_path w path) (written_folders w) ≡ false) → is_some deps ≡ true
    → list_any is_refused_folder (written_folders w) ≡ false
written_allowed w None h some = absurd (false≢true some)
written_allowed w (Some path) h some = (are_allowed (session_words w) (rule_path w path) (written_folders w) h).folders

at_all : (w : Words) (listings : List (Option Listing)) (p : Places) → list_any is_refused_folder (written_folders w) ≡ false → p.out ≡ w.out → map seen p.disks ≡ folders_with w.disk listings
    → AllowsPlaces p
at_all w listings p h out disks =
    let two = neither (list_any is_refused_folder (four w.out)) (list_any is_refused_folder (four w.disk)) (sym (list_any-append is_refused_folder (four w.out) (four w.disk)) ∙ h) in
    record { disks = four_drives (four w.disk) listings p.disks disks two.1; out = ap (λ folders. list_any is_refused_folder (four folders)) out ∙ two.0 }

-- A rule can have the paths of all files that a run puts in place.
pub puts_carried : (w : Words) (listings : List (Option Listing)) (p : Places) (host : Host) (files : Files) (disks : Disks) → ArePlaces w listings p → AllowsRule w → is_some w.deps ≡ true
    → list_all is_carried (put_paths (puts disks (changed_list p host files))) ≡ true
puts_carried w listings p host files disks are allows some =
    let a = at_all w listings p (written_allowed w w.deps allows some) are.out are.disks in
    let cs = changed_list p host files in
    let new = on_disks disks (planned New cs) in
    let replacing = on_disks disks (planned Replacing cs) in
    joined (planned Outside cs) (new ++ replacing) (in_turn Outside p host files a)
    (joined new replacing (on_disks_carried disks (planned New cs) (in_turn New p host files a)) (on_disks_carried disks (planned Replacing cs) (in_turn Replacing p host files a)))

-- The paths of the files that are planned outside of disks, and then on disks.
pub paths_put : (disks : Disks) (cs : List Changed) (outside plan : List Wanted) → outside ≡ planned Outside cs → plan ≡ disk_puts disks cs
    → put_paths outside ++ put_paths plan ≡ put_paths (puts disks cs)
paths_put disks cs outside plan o d = sym (paths_joined outside plan) ∙ ap (λ t. put_paths (t ++ plan)) o ∙ ap (λ t. put_paths (planned Outside cs ++ t)) d

-- What is known at the path of a rule, and its targets.
pub allowed_there : (w : Words) (path : Bor Path) → w.deps ≡ Some path → AllowsRule w → AreAllowed (session_words w) (rule_path w path) (written_folders w)
allowed_there w path e h =
    are_allowed (session_words w) (rule_path w path) (written_folders w)
    (subst (λ o. IfSome o (λ p. refuses_rule (session_words w) (rule_path w p) (written_folders w) ≡ false)) e h)

pub targets_carried : (w : Words) (path : Bor Path) (written : List Path) → AreAllowed (session_words w) (rule_path w path) (written_folders w)
    → list_all is_carried written ≡ true → list_all is_carried (targets_of w path.now written) ≡ true
targets_carried w path written a all = by w.target written a.path_carried all where
  by : (target : Option (Bor Path)) (written : List Path) → is_carried (unwrap_or target path).now ≡ true → list_all is_carried written ≡ true
      → list_all is_carried (chosen target (or_rule path.now written)) ≡ true
  by (Some target) written h all = and_from (is_carried target.now) true h refl
  by None [] h all = and_from (is_carried path.now) true h refl
  by None (p ∷ ps) h all = all
