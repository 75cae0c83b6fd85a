-- The effect of a deletion.
use Rattle.std.proofs.Common.{◌≡◌, Bool, true, false, cond, ◌&&◌, Option, Some, None, refl, sym, ap, ◌∙◌}
use Rattle.std.specs.Ordering.{nat_cmp, eq_by_cmp}
use Rattle.std.specs.Cmp.Lexicographic.{slice_cmp, nat_list_cmp_total}
use Rattle.std.specs.FinMap.{get, get-insert}
use Rattle.hostfiles.proofs.Views.{same_key, key_of}
use Rattle.hostfiles.specs.Entries.{is_match}
use Rattle.hostfiles.proofs.FileLemmas.{get-files}
use Rattle.hostfiles.proofs.LaidLemmas.{entry_file}
use Rattle.hostfiles.specs.Hosts.{Key, Host}
use Rattle.hostfiles.specs.Files.{OwnFiles, has, gone_entry, after_delete, files}
use Rattle.hostfiles.specs.declared.journal.Entry.{Entry}
use Rattle.cpmfiles.specs.Tables.{NamedAreGone, is_named}
use Rattle.cpmfiles.specs.Renaming.{has_wildcard}

named_alone : (host : Host) (own : OwnFiles) (key q : Key) → has_wildcard key ≡ false → (is_named key q && has host own q) ≡ (eq_by_cmp (slice_cmp nat_cmp) q key && has host own q)
named_alone host own key q plain = ap (λ b. cond b (is_match key q) (eq_by_cmp (slice_cmp nat_cmp) q key) && has host own q) plain

one_taken : (b : Bool) (h : Bool) (x r : Option Entry) → (b ≡ true → h ≡ true) → cond b x r ≡ cond (b && h) x r
one_taken true h x r e = ap (λ t. cond t x r) (sym (e refl))
one_taken false h x r e = refl

none_taken : (b : Bool) (h : Bool) (x r : Option Entry) → (b ≡ true → h ≡ false) → r ≡ cond (b && h) x r
none_taken true h x r e = ap (λ t. cond t x r) (sym (e refl))
none_taken false h x r e = refl

pub one_deleted : (host : Host) (own : OwnFiles) (key : Key) (after : OwnFiles) → has_wildcard key ≡ false → has host own key ≡ true → after ≡ after_delete own key → NamedAreGone host own key after
one_deleted host own key after plain h e = record {
  at = λ q.
      ap (λ m. get m q) e ∙ get-insert nat_list_cmp_total own key gone_entry q
      ∙ one_taken (eq_by_cmp (slice_cmp nat_cmp) q key) (has host own q) (Some gone_entry) (get own q) (λ b. ap (has host own) (key_of same_key q key b) ∙ h)
      ∙ sym (ap (λ t. cond t (Some gone_entry) (get own q)) (named_alone host own key q plain));
}

pub none_deleted : (host : Host) (own : OwnFiles) (key : Key) (after : OwnFiles) → has_wildcard key ≡ false → has host own key ≡ false → after ≡ own → NamedAreGone host own key after
none_deleted host own key after plain h e = record {
  at = λ q.
      ap (λ m. get m q) e
      ∙ none_taken (eq_by_cmp (slice_cmp nat_cmp) q key) (has host own q) (Some gone_entry) (get own q) (λ b. ap (has host own) (key_of same_key q key b) ∙ h)
      ∙ sym (ap (λ t. cond t (Some gone_entry) (get own q)) (named_alone host own key q plain));
}

-- ---- the map of all files

pub files-deleted_all : (host : Host) (own after : OwnFiles) (pattern : Key) → NamedAreGone host own pattern after → (q : Key) → get (files host after) q ≡ cond (is_named pattern q && has host own q) None (get (files host own) q)
files-deleted_all host own after pattern d q =
    get-files host after q ∙ ap (entry_file host q) (d.at q)
    ∙ elim (is_named pattern q && has host own q) as (λ b. entry_file host q (cond b (Some gone_entry) (get own q)) ≡ cond b None (entry_file host q (get own q))) [ true ↦ refl | false ↦ refl ]
    ∙ ap (cond (is_named pattern q && has host own q) None) (sym (get-files host own q))
