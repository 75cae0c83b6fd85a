-- The files as one map have the same start, answers and changes as what was done to the files, laid over the host files.
use Rattle.std.proofs.Common.{◌≡◌, ℕ, ◌&&◌, Bool, true, false, cond, T, List, [], ◌∷◌, length, map, Option, Some, None, is_some, unwrap_or, refl, sym, ap, subst, ◌∙◌, arith, inl, inr}
use Rattle.std.proofs.lemmas.Bool.{cases_lt}
use Rattle.std.proofs.lemmas.List.{get_or-map, length-map}
use Rattle.std.proofs.lemmas.List.FromFn.{fill_by_all}
use Rattle.std.proofs.lemmas.Option.{slice_get-get_or}
use Rattle.std.specs.List.{range_with_len, filter}
use Rattle.std.specs.Option.{option_map}
use Rattle.std.specs.Ordering.{nat_cmp, is_lt}
use Rattle.std.specs.Cmp.Lexicographic.{slice_cmp, nat_list_cmp_total}
use Rattle.std.specs.FinMap.{get, empty, entries, entries_sorted, get-entries, get-empty, get-from_entries, same_map}
use Rattle.std.specs.FinMap.Entries.{below_all, is_sorted, find-where_key, is_sorted-where_key, same_entries}
use Rattle.hostfiles.proofs.Views.{same_key}
use Rattle.hostfiles.specs.Hosts.{Key, Record, Host}
use Rattle.hostfiles.specs.Files.{OwnFiles, has, entry_at, length_at, record_below_length, written_or_host_record, record_or_hole, file_of, file_at, shapes, files, after_delete, after_write}
use Rattle.hostfiles.specs.File.{File, shape_of}
use Rattle.hostfiles.proofs.FileLemmas.{get-files, get-shapes, files-made, files-deleted}
use Rattle.hostfiles.proofs.LaidLemmas.{below, not_below, entry_file, files-renamed, files-read}
use Rattle.hostfiles.proofs.WriteLemmas.{files-wrote}
use Rattle.file_calls.specs.FileQuestions.{FileQuestion, IsThere, ShapeOf, Content, FilesOn, is_on, files_on}
use Rattle.file_calls.specs.TableView.{file_answers, shape_of_key}
use Rattle.file_calls.specs.Changes.{FileChange, Unchanged, Made, Deleted, Renamed, Stored}
use Rattle.file_calls.specs.Deletes.{own_after_change}
use Rattle.file_calls.specs.Deletes.{own_without}
use Rattle.file_calls.proofs.Names.{find-mapped, alike}
use Rattle.machine.specs.PlainFiles.{file_of_records, loaded_files, file_in, answers_of, without_keys, files_after}
use Rattle.machine.proofs.FitLemmas.{IsFit}
use Rattle.machine.proofs.TidyFiles.{IsTidy}

-- ---- the host files

all_stand : (u : List Record) → file_of_records u ≡ map (λ k. written_or_host_record u k (get {R = nat_cmp} empty k) true) (range_with_len 0 (length u))
all_stand u = fill_by_all (λ k. written_or_host_record u k (get {R = nat_cmp} empty k) true) (file_of_records u) (length u) None (length-map u (λ r. Some r))
    (λ k h. get_or-map (λ r. Some r) u k [] None h ∙ sym (ap (λ o. written_or_host_record u k o true) (get-empty nat_cmp k) ∙ slice_get-get_or u k [] h))

host_file : (host : Host) (q : Key) → option_map file_of_records (get host q) ≡ entry_file host q None
host_file host q = by (get host q) where
  by : (o : Option (List Record)) → option_map file_of_records o ≡ cond (is_some o) (Some (map (λ k. written_or_host_record (unwrap_or o []) k (get {R = nat_cmp} empty k) true) (range_with_len 0 (length (unwrap_or o []))))) None
  by None = refl
  by (Some u) = ap (λ (f : File). Some f) (all_stand u)

-- If nothing was done, all files are the host files.
pub loaded_is : (host : Host) → loaded_files host ≡ files host empty
unfolding loaded_files
loaded_is host = same_map nat_list_cmp_total same_key _ _ (λ q.
    get-from_entries nat_list_cmp_total (map (λ e. (e.0, file_of_records e.1)) (entries host)) q
    ∙ find-mapped file_of_records q (entries host)
    ∙ ap (option_map file_of_records) (sym (get-entries host q))
    ∙ host_file host q
    ∙ ap (entry_file host q) (sym (get-empty (slice_cmp nat_cmp) q))
    ∙ sym (get-files host empty q))

-- ---- files of a drive

module _ {A B : Type 0} (g : A → B) where
  below-mapped : (x : Key) (es : List (Key × A)) → below_all (slice_cmp nat_cmp) x (map (λ e. (e.0, g e.1)) es) ≡ below_all (slice_cmp nat_cmp) x es
  below-mapped x [] = refl
  below-mapped x (e ∷ es) = ap (λ b. is_lt (slice_cmp nat_cmp x e.0) && b) (below-mapped x es)

  pub sorted-mapped : (es : List (Key × A)) → is_sorted (slice_cmp nat_cmp) (map (λ e. (e.0, g e.1)) es) ≡ is_sorted (slice_cmp nat_cmp) es
  sorted-mapped [] = refl
  sorted-mapped (e ∷ es) = λ i. below-mapped e.0 es i && sorted-mapped es i

module _ (host : Host) (own : OwnFiles) where
  -- The files of a drive, with their shapes.
  files_of_drive : (drive : ℕ) → map (λ e. (e.0, shape_of e.1)) (filter (λ e. is_on drive e.0) (entries (files host own))) ≡ files_on drive (shapes host own)
  unfolding files_on
  files_of_drive drive =
      same_entries (slice_cmp nat_cmp) nat_list_cmp_total same_key (map (λ e. (e.0, shape_of e.1)) (filter (λ e. is_on drive e.0) (entries (files host own)))) (filter (λ e. is_on drive e.0) (entries (shapes host own)))
      (subst T (sym (sorted-mapped shape_of (filter (λ e. is_on drive e.0) (entries (files host own))))) (is_sorted-where_key (slice_cmp nat_cmp) (is_on drive) (entries (files host own)) (entries_sorted (files host own))))
      (is_sorted-where_key (slice_cmp nat_cmp) (is_on drive) (entries (shapes host own)) (entries_sorted (shapes host own)))
      (λ q.
      find-mapped shape_of q (filter (λ e. is_on drive e.0) (entries (files host own)))
      ∙ ap (option_map shape_of) (find-where_key (slice_cmp nat_cmp) (is_on drive) q (alike drive q) (entries (files host own)) ∙ ap (λ o. cond (is_on drive q) o None) (sym (get-entries (files host own) q) ∙ get-files host own q))
      ∙ shaped (is_on drive q) (file_at host own q)
      ∙ sym (find-where_key (slice_cmp nat_cmp) (is_on drive) q (alike drive q) (entries (shapes host own)) ∙ ap (λ o. cond (is_on drive q) o None) (sym (get-entries (shapes host own) q) ∙ get-shapes host own q))) where
        shaped : (b : Bool) (o : Option File) → option_map shape_of (cond b o None) ≡ cond b (option_map shape_of o) None
        shaped true o = refl
        shaped false o = refl

  -- ---- the answers of files

  module _ (tidy : IsTidy host own) where
    file_is : (key : Key) → file_in (files host own) key ≡ file_of host key (entry_at own key)
    file_is key = ap (λ o. unwrap_or o []) (get-files host own key) ∙ by (has host own key) refl where
      by : (b : Bool) → has host own key ≡ b → unwrap_or (cond b (Some (file_of host key (entry_at own key))) None) [] ≡ file_of host key (entry_at own key)
      by true h = refl
      by false h = ap (λ n. map (record_or_hole host key (entry_at own key)) (range_with_len 0 n)) (sym (tidy.absent key h))

    place_is : (key : Key) (k : ℕ) (b : Bool) → has host own key ≡ b → cond b (record_below_length host own key k) None ≡ record_or_hole host key (entry_at own key) k
    place_is key k true h = elim (cases_lt k (length_at host own key)) [
      | inl l ↦ ap (λ b. cond b (record_or_hole host key (entry_at own key) k) None) (below k (length_at host own key) l)
      | inr l ↦ ap (λ b. cond b (record_or_hole host key (entry_at own key) k) None) (not_below k (length_at host own key) l) ∙ sym (tidy.ends key k l)
    ]
    place_is key k false h = sym (tidy.ends key k (rw (tidy.absent key h) (omega arith)))

    pub answer_is : (q : FileQuestion) → answers_of (files host own) q ≡ file_answers host own q
    unfolding shape_of_key
    answer_is (IsThere key) = ap is_some (get-files host own key) ∙ by (has host own key) where
      by : (b : Bool) → is_some (cond b (Some (file_of host key (entry_at own key))) None) ≡ b
      by true = refl
      by false = refl
    answer_is (ShapeOf key) = ap shape_of (file_is key)
    answer_is (Content key k) = sym (files-read host own key k) ∙ place_is key k (has host own key) refl
    answer_is (FilesOn drive) = files_of_drive drive

-- ---- a change

module _ (host : Host) where
  there : (own : OwnFiles) (key : Key) → has host own key ≡ true → get (files host own) key ≡ Some (file_in (files host own) key)
  there own key h =
      let is : get (files host own) key ≡ Some (file_of host key (entry_at own key)) = get-files host own key ∙ ap (λ b. cond b (Some (file_of host key (entry_at own key))) None) h in
      is ∙ sym (ap (λ o. Some (unwrap_or o [])) is)

  removed_is : (own : OwnFiles) (keys : List Key) → without_keys (files host own) keys ≡ files host (own_without own keys)
  removed_is own [] = refl
  removed_is own (key ∷ keys) = ap (λ m. without_keys m keys) (sym (files-deleted host own key)) ∙ removed_is (after_delete own key) keys

  pub changed_is : (own : OwnFiles) (change : FileChange) → IsTidy host own → IsFit host own change → files_after change (files host own) ≡ files host (own_after_change change own)
  changed_is own Unchanged tidy fits = refl
  changed_is own (Made key) tidy fits = sym (files-made host own key)
  changed_is own (Deleted keys) tidy fits = removed_is own keys
  changed_is own (Renamed old new) tidy fits = sym (files-renamed host own old new (file_in (files host own) old) (there own old fits.1))
  changed_is own (Stored w r) tidy fits =
      sym (files-wrote host own w.gap w.key w.place r (file_in (files host own) w.key) (λ _. tidy.ends w.key) (there own w.key fits.1))
      ∙ ap (λ n. files host (after_write w.gap n own w.key w.place r)) (sym fits.0)
