-- The files of a drive, from the lengths of its host files.
use Rattle.std.proofs.Common.{◌≡◌, ℕ, Bool, true, false, cond, ◌==◌, List, [], ◌∷◌, length, map, replicate, Option, Some, None, is_some, unwrap_or, refl, sym, ap, ◌∙◌}
use Rattle.std.proofs.lemmas.List.{length-replicate}
use Rattle.std.proofs.lemmas.Simd.{map-map}
use Rattle.std.specs.List.{filter}
use Rattle.std.specs.Option.{option_map}
use Rattle.std.specs.Ordering.{nat_cmp, eq_by_cmp}
use Rattle.std.specs.Cmp.Lexicographic.{slice_cmp, nat_list_cmp_total}
use Rattle.std.specs.FinMap.{get, entries, entries_sorted, get-entries, get-from_entries, contains_key}
use Rattle.std.specs.FinMap.Entries.{find, find-where_key, is_sorted-where_key, same_entries}
use Rattle.std.specs.declared.cmp.Ordering.TheVariants.{Equal}
use Rattle.hostfiles.proofs.Views.{same_key}
use Rattle.hostfiles.specs.Entries.{Shape}
use Rattle.hostfiles.specs.Records.{zeros}
use Rattle.hostfiles.specs.Hosts.{Key, Record, Host}
use Rattle.hostfiles.specs.Files.{OwnFiles, entry_at, host_records, base_key, is_there, file_of, shape_at, shapes}
use Rattle.hostfiles.specs.File.{shape_of}
use Rattle.hostfiles.specs.declared.journal.Base.{Base}
use Rattle.hostfiles.specs.declared.journal.Base.TheVariants.{Same, Gone, New, Moved}
use Rattle.hostfiles.specs.declared.journal.Entry.{Entry}
use Rattle.hostfiles.proofs.FileLemmas.{get-shapes}
use Rattle.file_calls.specs.FileQuestions.{is_on, files_on}
use Rattle.file_calls.specs.HostTrees.{names_on, hosts_with, shape_with, AreSoundOwnFiles}
use Rattle.file_calls.proofs.Parts.{shape_is}

pub find-mapped : {A B : Type 0} (g : A → B) (q : Key) (es : List (Key × A)) → find (slice_cmp nat_cmp) q (map (λ e. (e.0, g e.1)) es) ≡ option_map g (find (slice_cmp nat_cmp) q es)
find-mapped g q [] = refl
find-mapped g q (e ∷ es) = elim (eq_by_cmp (slice_cmp nat_cmp) q e.0) as (λ b. cond b (Some (g e.1)) (find (slice_cmp nat_cmp) q (map (λ e. (e.0, g e.1)) es)) ≡ option_map g (cond b (Some e.1) (find (slice_cmp nat_cmp) q es)))
    [ true ↦ refl | false ↦ find-mapped g q es ]

-- Keys that compare as equal are on one drive.
pub alike : (drive : ℕ) (q x : Key) → slice_cmp nat_cmp q x ≡ Equal → is_on drive x ≡ is_on drive q
alike drive q x e = ap (is_on drive) (sym (same_key q x e))

blank : List Record → List Record
blank f = replicate (length f) zeros

abbrev of_count : Key × ℕ → Key × List Record
of_count p = (p.0, replicate p.1 zeros)

abbrev count_of : Key × List Record → Key × ℕ
count_of e = (e.0, length e.1)

abbrev blanked : Key × List Record → Key × List Record
blanked e = (e.0, blank e.1)

module _ (host : Host) (drive : ℕ) where
  abbrev known : Host
  known = hosts_with (names_on drive host)

  known_list : map of_count (names_on drive host) ≡ map blanked (filter (λ e. is_on drive e.0) (entries host))
  unfolding names_on blank
  known_list = map-map of_count count_of (filter (λ e. is_on drive e.0) (entries host))

  -- On the drive, these names say of each host file whether it is there, and how long it is.
  known_at : (q : Key) → is_on drive q ≡ true → get known q ≡ option_map blank (get host q)
  known_at q on =
      get-from_entries nat_list_cmp_total (map of_count (names_on drive host)) q
      ∙ ap (find (slice_cmp nat_cmp) q) known_list
      ∙ find-mapped blank q (filter (λ e. is_on drive e.0) (entries host))
      ∙ ap (option_map blank) (find-where_key (slice_cmp nat_cmp) (is_on drive) q (alike drive q) (entries host)
      ∙ ap (λ b. cond b (find (slice_cmp nat_cmp) q (entries host)) None) on ∙ sym (get-entries host q))

  known_there : (q : Key) → is_on drive q ≡ true → contains_key known q ≡ contains_key host q
  known_there q on = ap is_some (known_at q on) ∙ elim (get host q) as (λ o. is_some (option_map blank o) ≡ is_some o) [ None ↦ refl | Some f ↦ refl ]

  blank_length : (o : Option (List Record)) → length (unwrap_or (option_map blank o) []) ≡ length (unwrap_or o [])
  unfolding blank
  blank_length None = refl
  blank_length (Some f) = length-replicate (length f) zeros

  known_length : (q : Key) → is_on drive q ≡ true → length (host_records known (Some q)) ≡ length (host_records host (Some q))
  known_length q on = ap (λ o. length (unwrap_or o [])) (known_at q on) ∙ blank_length (get host q)

  module _ (own : OwnFiles) (sound : AreSoundOwnFiles host own) (q : Key) (on : is_on drive q ≡ true) where
    there_alike : (b : Base) → is_there known q b ≡ is_there host q b
    there_alike Same = known_there q on
    there_alike Gone = refl
    there_alike New = refl
    there_alike (Moved old) = refl

    length_alike : (b : Base) → (entry_at own q).base ≡ b → length (host_records known (base_key q b)) ≡ length (host_records host (base_key q b))
    length_alike Same is = known_length q on
    length_alike Gone is = refl
    length_alike New is = refl
    length_alike (Moved old) is = known_length old (ap (λ d. drive == d) ((sound.at q).drive old (ap (base_key q) is)) ∙ on)

    shape_alike : shape_at known own q ≡ shape_at host own q
    shape_alike =
        let e : Entry = entry_at own q in
        ap (λ (b : Bool). option_map shape_of (cond b (Some (file_of known q e)) None)) (there_alike e.base)
        ∙ elim (is_there host q e.base) as (λ b. option_map shape_of (cond b (Some (file_of known q e)) None) ≡ option_map shape_of (cond b (Some (file_of host q e)) None)) [
          | true ↦ ap (λ (s : Shape). Some s) (sym (shape_is known q e) ∙ ap (λ n. shape_with n e) (length_alike e.base refl) ∙ shape_is host q e)
          | false ↦ refl
        ]

  found : (own : OwnFiles) → AreSoundOwnFiles host own → (q : Key) (b : Bool) → is_on drive q ≡ b → cond b (get (shapes known own) q) None ≡ cond b (get (shapes host own) q) None
  found own sound q true on = get-shapes known own q ∙ shape_alike own sound q on ∙ sym (get-shapes host own q)
  found own sound q false off = refl

  pub same_files : (own : OwnFiles) → AreSoundOwnFiles host own → files_on drive (shapes known own) ≡ files_on drive (shapes host own)
  unfolding files_on
  same_files own sound =
      let of : (m : _) (q : Key) → find (slice_cmp nat_cmp) q (filter (λ e. is_on drive e.0) (entries m)) ≡ cond (is_on drive q) (get m q) None = λ m q.
      find-where_key (slice_cmp nat_cmp) (is_on drive) q (alike drive q) (entries m) ∙ ap (λ o. cond (is_on drive q) o None) (sym (get-entries m q)) in
      same_entries (slice_cmp nat_cmp) nat_list_cmp_total same_key (filter (λ e. is_on drive e.0) (entries (shapes known own))) (filter (λ e. is_on drive e.0) (entries (shapes host own)))
      (is_sorted-where_key (slice_cmp nat_cmp) (is_on drive) (entries (shapes known own)) (entries_sorted (shapes known own)))
      (is_sorted-where_key (slice_cmp nat_cmp) (is_on drive) (entries (shapes host own)) (entries_sorted (shapes host own)))
      (λ q. of (shapes known own) q ∙ found own sound q (is_on drive q) refl ∙ sym (of (shapes host own) q))
