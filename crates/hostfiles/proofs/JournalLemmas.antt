-- Laws of what a run did to the files.
use Rattle.std.proofs.Common.{◌≡◌, ◌≢◌, Bool, true, false, cond, Option, Some, Result, Ok, Err, OnErr, refl, sym, ap, subst, ◌∙◌, unwrap_or}
use Rattle.std.specs.Ordering.{nat_cmp, eq_by_cmp}
use Rattle.std.specs.FinMap.{get, insert, empty, get-empty, get-insert}
use Rattle.std.specs.Cmp.Lexicographic.{slice_cmp, nat_list_cmp_total}
use Rattle.hostfiles.specs.Hosts.{Key}
use Rattle.hostfiles.specs.Files.{OwnFiles, untouched_entry, gone_entry, renamed_from, after_rename, entry_at}
use Rattle.hostfiles.specs.declared.journal.Entry.{Entry}
use Rattle.keymaps.proofs.Views.{insert_same, insert_over, get_apart, same_key, key_of}

-- An entry that a rename overwrites does not matter.
pub renamed_over : (m : OwnFiles) (old new : Key) (x : Entry) → old ≢ new → after_rename (insert m new x) old new ≡ after_rename m old new
renamed_over m old new x apart =
    insert_over nat_list_cmp_total same_key m new old x gone_entry (renamed_from old (entry_at (insert m new x) old))
    ∙ ap (λ e. insert (insert m old gone_entry) new (renamed_from old (unwrap_or e untouched_entry))) (get_apart nat_list_cmp_total same_key m new x old apart)

-- If the entry is put back on an error, nothing has changed.
pub put_back : {T E : Type 0} (r : Result T E) (m new : OwnFiles) (key : Key) (x y : Entry) → get m key ≡ Some x → new ≡ insert m key y → OnErr r (y ≡ x) → OnErr r (new ≡ m)
put_back (Ok _) m new key x y there put same = tt
put_back (Err _) m new key x y there put same = put ∙ ap (insert m key) same ∙ insert_same nat_list_cmp_total same_key m key x there

-- A fact about each entry.
module _ (Fact : Key → Entry → Type 0) where
  -- It holds if nothing was done, if it holds of a file to which nothing was done.
  pub each_untouched : ((q : Key) → Fact q untouched_entry) → (q : Key) → Fact q (entry_at empty q)
  each_untouched all q = subst (λ (o : Option Entry). Fact q (unwrap_or o untouched_entry)) (sym (get-empty (slice_cmp nat_cmp) q)) (all q)

  -- It still holds with one more entry of which it holds.
  pub each_with : (own : OwnFiles) (key : Key) (e : Entry) → ((q : Key) → Fact q (entry_at own q)) → Fact key e → (q : Key) → Fact q (entry_at (insert own key e) q)
  each_with own key e all here q = subst (λ (o : Option Entry). Fact q (unwrap_or o untouched_entry)) (sym (get-insert nat_list_cmp_total own key e q)) (at (eq_by_cmp (slice_cmp nat_cmp) q key) refl) where
    at : (b : Bool) → eq_by_cmp (slice_cmp nat_cmp) q key ≡ b → Fact q (unwrap_or (cond b (Some e) (get own q)) untouched_entry)
    at true is = subst (λ (x : Key). Fact x e) (sym (key_of same_key q key is)) here
    at false is = all q
