-- A search of the files of its drive finds what a search of all files finds.
use Rattle.std.proofs.Common.{◌≡◌, ℕ, Bool, true, false, cond, ◌&&◌, ◌||◌, ◌==◌, List, [], ◌∷◌, ◌++◌, Option, Some, None, refl, sym, ap, ◌∙◌, slice_index, flat_map, drop}
use Rattle.std.specs.List.{filter, find}
use Rattle.std.specs.FinMap.{entries}
use Rattle.std.proofs.Math.Bool.{and-false}
use Rattle.hostfiles.specs.Entries.{Shape, Shapes, Listing, listing_entries, next_among, entries_of, is_after, matches, is_match, fits_name, next_entry}
use Rattle.hostfiles.specs.Entry.{Entry}
use Rattle.hostfiles.specs.Position.{Position}
use Rattle.hostfiles.proofs.Walk.{or_else, alike_of, first_append}
use Rattle.hostfiles.specs.Hosts.{Key}
use Rattle.file_calls.specs.FileQuestions.{is_on, files_on}

nowhere : (es : List Entry) → find (λ e. false) es ≡ None
nowhere [] = refl
nowhere (e ∷ es) = nowhere es

-- Files without a match can be left out.
left_out : (p : Entry → Bool) (q : Key → Bool) → ((k : Key) (s : Shape) → q k ≡ false → find p (entries_of k s) ≡ None) → (xs : Listing)
    → find p (flat_map (λ x. entries_of x.0 x.1) (filter (λ x. q x.0) xs)) ≡ find p (flat_map (λ x. entries_of x.0 x.1) xs)
left_out p q none [] = refl
left_out p q none (x ∷ xs) = by_case (left_out p q none xs) (q x.0) refl where
  by_case : find p (listing_entries (filter (λ x. q x.0) xs)) ≡ find p (listing_entries xs) → (b : Bool) → q x.0 ≡ b
      → find p (listing_entries (cond b (x ∷ filter (λ x. q x.0) xs) (filter (λ x. q x.0) xs))) ≡ find p (entries_of x.0 x.1 ++ listing_entries xs)
  by_case more true e =
      first_append p (entries_of x.0 x.1) (listing_entries (filter (λ x. q x.0) xs))
      ∙ ap (or_else (find p (entries_of x.0 x.1))) more
      ∙ sym (first_append p (entries_of x.0 x.1) (listing_entries xs))
  by_case more false e =
      more
      ∙ ap (λ o. or_else o (find p (listing_entries xs))) (sym (none x.0 x.1 e))
      ∙ sym (first_append p (entries_of x.0 x.1) (listing_entries xs))

-- No entry of a file on another drive matches.
elsewhere : (pattern : Key) (ex : ℕ) (after : Option Position) (k : Key) (s : Shape) → is_on (slice_index pattern 0) k ≡ false
    → find (λ e. is_after after e && matches pattern ex e) (entries_of k s) ≡ None
elsewhere pattern ex after k s other = alike_of k s (λ e. is_after after e && matches pattern ex e) (λ e. false) (λ n c.
    ap (λ b. is_after after (record { key = k; extent = n; count = c }) && ((b && fits_name (drop 1 pattern) (drop 1 k)) && (ex == 63 || ex == n))) other
    ∙ and-false (is_after after (record { key = k; extent = n; count = c }))) ∙ nowhere (entries_of k s)

pub same_entry : (pattern : Key) (ex : ℕ) (after : Option Position) (m : Shapes) → next_among pattern ex after (files_on (slice_index pattern 0) m) ≡ next_entry pattern ex after m
unfolding files_on
same_entry pattern ex after m = left_out (λ e. is_after after e && matches pattern ex e) (is_on (slice_index pattern 0)) (elsewhere pattern ex after) (entries m)
