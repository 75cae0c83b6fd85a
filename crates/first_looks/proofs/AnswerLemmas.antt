-- The answers of host files after one of them is replaced.
use Rattle.std.proofs.Common.{◌≡◌, ℕ, Bool, true, false, cond, ◌⊎◌, inl, inr, List, [], ◌∷◌, length, map, Option, Some, None, is_some, refl, sym, ap, subst, ◌∙◌}
use Rattle.std.specs.Prelude.{T, ◌&&◌}
use Rattle.std.specs.List.{filter}
use Rattle.std.specs.Option.{option_map}
use Rattle.std.specs.Ordering.{nat_cmp, eq_by_cmp, is_lt}
use Rattle.std.specs.declared.cmp.Ordering.TheVariants.{Equal}
use Rattle.std.specs.Cmp.{eq_by_cmp_equiv}
use Rattle.std.specs.Cmp.Lexicographic.{slice_cmp, nat_list_cmp_total}
use Rattle.std.specs.FinMap.{get, get-insert, get-remove, entries, entries_sorted, get-entries}
use Rattle.std.specs.FinMap.Entries.{find, find-where_key, is_sorted, is_sorted-where_key, below_all, same_entries}
use Rattle.keymaps.proofs.Views.{same_key, key_of}
use Rattle.hostfiles.specs.Hosts.{Key, Record, Host}
use Rattle.hostfiles.specs.declared.looks.Ask.{Ask}
use Rattle.hostfiles.specs.declared.looks.Ask.TheVariants.{Has, Length, Rec, Directory}
use Rattle.file_calls.specs.FileQuestions.{is_on}
use Rattle.file_calls.specs.HostTrees.{names_on, host_answers}
use Rattle.first_looks.specs.Touch.{record_of}
use Rattle.first_looks.specs.Setting.{with_file}

-- ---- the names of a drive, with their lengths

found_count : (q : Key) (es : List (Key × List Record)) → find (slice_cmp nat_cmp) q (map (λ e. (e.0, length e.1)) es) ≡ option_map length (find (slice_cmp nat_cmp) q es)
found_count q [] = refl
found_count q (e ∷ es) = elim (eq_by_cmp (slice_cmp nat_cmp) q e.0) as (λ b. cond b (Some (length e.1)) (find (slice_cmp nat_cmp) q (map (λ e. (e.0, length e.1)) es)) ≡ option_map length (cond b (Some e.1) (find (slice_cmp nat_cmp) q es)))
    [ true ↦ refl | false ↦ found_count q es ]

below_counts : (k : Key) (es : List (Key × List Record)) → below_all (slice_cmp nat_cmp) k (map (λ e. (e.0, length e.1)) es) ≡ below_all (slice_cmp nat_cmp) k es
below_counts k [] = refl
below_counts k (e ∷ es) = ap (λ b. is_lt (slice_cmp nat_cmp k e.0) && b) (below_counts k es)

sorted_counts : (es : List (Key × List Record)) → is_sorted (slice_cmp nat_cmp) (map (λ e. (e.0, length e.1)) es) ≡ is_sorted (slice_cmp nat_cmp) es
sorted_counts [] = refl
sorted_counts (e ∷ es) =
    ap (λ b. b && is_sorted (slice_cmp nat_cmp) (map (λ e. (e.0, length e.1)) es)) (below_counts e.0 es)
    ∙ ap (λ b. below_all (slice_cmp nat_cmp) e.0 es && b) (sorted_counts es)

-- Keys that compare as equal are on one drive.
alike : (drive : ℕ) (q x : Key) → slice_cmp nat_cmp q x ≡ Equal → is_on drive x ≡ is_on drive q
alike drive q x e = ap (is_on drive) (sym (same_key q x e))

module _ (drive : ℕ) where
  name_at : (host : Host) (q : Key) → find (slice_cmp nat_cmp) q (names_on drive host) ≡ option_map length (cond (is_on drive q) (get host q) None)
  unfolding names_on
  name_at host q =
      found_count q (filter (λ e. is_on drive e.0) (entries host))
      ∙ ap (option_map length) (find-where_key (slice_cmp nat_cmp) (is_on drive) q (alike drive q) (entries host) ∙ ap (λ o. cond (is_on drive q) o None) (sym (get-entries host q)))

  names_sorted : (host : Host) → T (is_sorted (slice_cmp nat_cmp) (names_on drive host))
  unfolding names_on
  names_sorted host = subst T (sym (sorted_counts (filter (λ e. is_on drive e.0) (entries host)))) (is_sorted-where_key (slice_cmp nat_cmp) (is_on drive) (entries host) (entries_sorted host))

  same_at : (f g : Option (List Record)) (b : Bool) → (b ≡ true → option_map length f ≡ option_map length g) → option_map length (cond b f None) ≡ option_map length (cond b g None)
  same_at f g true h = h refl
  same_at f g false h = refl

  -- Host files with the same lengths on a drive give the same answer for its directory.
  pub same_names : (old new : Host) → ((q : Key) → is_on drive q ≡ true → option_map length (get old q) ≡ option_map length (get new q)) → names_on drive old ≡ names_on drive new
  same_names old new h = same_entries (slice_cmp nat_cmp) nat_list_cmp_total same_key (names_on drive old) (names_on drive new) (names_sorted old) (names_sorted new)
      (λ q. name_at old q ∙ same_at (get old q) (get new q) (is_on drive q) (h q) ∙ sym (name_at new q))

  -- Host files with the same answer for a drive's directory have the same lengths on the drive.
  pub names_tell : (old new : Host) (q : Key) → is_on drive q ≡ true → names_on drive old ≡ names_on drive new → option_map length (get old q) ≡ option_map length (get new q)
  names_tell old new q on e =
      ap (λ b. option_map length (cond b (get old q) None)) (sym on) ∙ sym (name_at old q) ∙ ap (find (slice_cmp nat_cmp) q) e ∙ name_at new q ∙ ap (λ b. option_map length (cond b (get new q) None)) on

-- ---- one file replaced

module _ (host : Host) (key : Key) where
  at_with : (file : Option (List Record)) (q : Key) → get (with_file host key file) q ≡ cond (eq_by_cmp (slice_cmp nat_cmp) q key) file (get host q)
  at_with None q = get-remove nat_list_cmp_total host key q
  at_with (Some r) q = get-insert nat_list_cmp_total host key r q

  pub file_here : (file : Option (List Record)) → get (with_file host key file) key ≡ file
  file_here file = at_with file key ∙ ap (λ b. cond b file (get host key)) ((eq_by_cmp_equiv nat_list_cmp_total).refl key)

  pub file_apart : (file : Option (List Record)) (q : Key) → eq_by_cmp (slice_cmp nat_cmp) q key ≡ false → get host q ≡ get (with_file host key file) q
  file_apart file q e = sym (at_with file q ∙ ap (λ b. cond b file (get host q)) e)

pub cases_key : (q key : Key) → (q ≡ key) ⊎ (eq_by_cmp (slice_cmp nat_cmp) q key ≡ false)
cases_key q key = elim (eq_by_cmp (slice_cmp nat_cmp) q key) as (λ b. eq_by_cmp (slice_cmp nat_cmp) q key ≡ b → (q ≡ key) ⊎ (b ≡ false))
    [ true ↦ λ e. inl (key_of same_key q key e) | false ↦ λ e. inr refl ] refl

-- A question about another key, or about another drive.
abbrev pub IsApart : Key → Ask → Type 0
IsApart key (Has q) = eq_by_cmp (slice_cmp nat_cmp) q key ≡ false
IsApart key (Length q) = eq_by_cmp (slice_cmp nat_cmp) q key ≡ false
IsApart key (Rec q k) = eq_by_cmp (slice_cmp nat_cmp) q key ≡ false
IsApart key (Directory drive) = is_on drive key ≡ false

off_drive : (drive : ℕ) (key q : Key) → is_on drive key ≡ false → is_on drive q ≡ true → eq_by_cmp (slice_cmp nat_cmp) q key ≡ false
off_drive drive key q off on = elim (cases_key q key) [
  | inl e ↦ let same = ap (is_on drive) e in cc
  | inr e ↦ e
]

-- Such a question keeps its answer.
pub answers_apart : (host : Host) (key : Key) (file : Option (List Record)) (q : Ask) → IsApart key q → host_answers host q ≡ host_answers (with_file host key file) q
answers_apart host key file (Has q) e = ap is_some (file_apart host key file q e)
answers_apart host key file (Length q) e = ap (option_map length) (file_apart host key file q e)
answers_apart host key file (Rec q k) e = ap (λ f. record_of f k) (file_apart host key file q e)
answers_apart host key file (Directory drive) e = same_names drive host (with_file host key file) (λ q on. ap (option_map length) (file_apart host key file q (off_drive drive key q e on)))

-- The directory of the key's drive, if the file keeps its length, or is not there before and after.
pub directory_same : (host : Host) (key : Key) (file : Option (List Record)) (drive : ℕ) → option_map length (get host key) ≡ option_map length file → names_on drive host ≡ names_on drive (with_file host key file)
directory_same host key file drive e = same_names drive host (with_file host key file) (λ q on. elim (cases_key q key) [
  | inl is ↦ ap (λ x. option_map length (get host x)) is ∙ e ∙ ap (option_map length) (sym (file_here host key file)) ∙ ap (λ x. option_map length (get (with_file host key file) x)) (sym is)
  | inr apart ↦ ap (option_map length) (file_apart host key file q apart)
])
