-- The records in extents, as a finite map and as a function of the record number.
use Rattle.std.proofs.Common.{inl, inr, ◌≡◌, ℕ, zero, suc, ◌<◌, ◌≤◌, ◌≢◌, Option, Some, None, refl, sym, ◌∙◌, ap, arith, cond, eqb}
use Rattle.std.proofs.lemmas.Bool.Decides.{eqb_tells, leb_tells}
use Rattle.std.proofs.lemmas.Cmp.{nat_cmp_total}
use Rattle.std.specs.Cmp.{unsigned_tied}
use Rattle.std.specs.Ordering.{nat_cmp}
use Rattle.std.specs.FinMap as finmap
use Rattle.records.specs.Extents.{record_map, record_map_below, with_record_if_any, record_limit, record_limit-is}
use Rattle.records.specs.Records.{RecordMap, Record}

pub get_insert : (m : RecordMap) (a : ℕ) (r : Record) (q : ℕ) → finmap.get (finmap.insert m a r) q ≡ cond (eqb q a) (Some r) (finmap.get m q)
get_insert m a r q = finmap.get-insert nat_cmp_total m a r q ∙ ap (λ b. cond b (Some r) (finmap.get m q)) (unsigned_tied q a)

entry_same : (m : RecordMap) (a : ℕ) (o : Option Record) → finmap.get m a ≡ None → finmap.get (with_record_if_any m a o) a ≡ o
entry_same m a None h = h
entry_same m a (Some v) h = elim (eqb_tells a a) [ inl same ↦ get_insert m a v a ∙ rw same.0 refl | inr other ↦ absurd (other.1 refl) ]

entry_other : (m : RecordMap) (a : ℕ) (o : Option Record) (q : ℕ) → q ≢ a → finmap.get (with_record_if_any m a o) q ≡ finmap.get m q
entry_other m a None q h = refl
entry_other m a (Some v) q h = elim (eqb_tells q a) [ inl same ↦ absurd (h same.1) | inr other ↦ get_insert m a v q ∙ rw other.0 refl ]

past : (n : ℕ) (own : ℕ → Option Record) (q : ℕ) → n ≤ q → finmap.get (record_map_below n own) q ≡ None
past zero own q h = finmap.get-empty nat_cmp q
past (suc n) own q h = entry_other _ n (own n) q (λ e. let f : q ≡ n = e in omega arith) ∙ past n own q (omega arith)

within : (n : ℕ) (own : ℕ → Option Record) (q : ℕ) → q < n → finmap.get (record_map_below n own) q ≡ own q
within zero own q h = absurd (omega arith)
within (suc n) own q h = elim (eqb_tells q n) [
  | inl same ↦ rw same.1 (entry_same (record_map_below n own) n (own n) (past n own n (omega arith)))
  | inr other ↦ entry_other _ n (own n) q other.1 ∙ within n own q (let far : q ≢ n = other.1 in omega arith)
]

-- The map has the record with a number below the limit.
pub get_kept : (own : ℕ → Option Record) (q : ℕ) → q < 65536 → finmap.get (record_map own) q ≡ own q
unfolding record_map
get_kept own q h = within record_limit own q (rw record_limit-is h)

pub get_past : (own : ℕ → Option Record) (q : ℕ) → 65536 ≤ q → finmap.get (record_map own) q ≡ None
unfolding record_map
get_past own q h = past record_limit own q (rw record_limit-is h)

pub kept_is : (own : ℕ → Option Record) (m : RecordMap) → ((q : ℕ) → q < 65536 → finmap.get m q ≡ own q) → ((q : ℕ) → 65536 ≤ q → finmap.get m q ≡ None) → record_map own ≡ m
kept_is own m below above = finmap.same_map nat_cmp_total finmap.nat_cmp-IsAntisymmetric _ _ (λ q. elim (leb_tells 65536 q) [
  | inl over ↦ get_past own q over.1 ∙ sym (above q over.1)
  | inr under ↦ get_kept own q under.1 ∙ sym (below q under.1)
])

-- Nothing written.
pub kept_none : (own : ℕ → Option Record) → ((q : ℕ) → own q ≡ None) → record_map own ≡ finmap.empty
kept_none own h = kept_is own finmap.empty (λ q _. finmap.get-empty nat_cmp q ∙ sym (h q)) (λ q _. finmap.get-empty nat_cmp q)

-- The same records.
pub kept_same : (own own' : ℕ → Option Record) → ((q : ℕ) → own' q ≡ own q) → record_map own' ≡ record_map own
kept_same own own' h = kept_is own' (record_map own) (λ q b. get_kept own q b ∙ sym (h q)) (get_past own)

-- One more record.
pub kept_put : (own own' : ℕ → Option Record) (a : ℕ) (r : Record) → a < 65536 → ((q : ℕ) → own' q ≡ cond (eqb q a) (Some r) (own q)) → record_map own' ≡ finmap.insert (record_map own) a r
kept_put own own' a r h e = kept_is own' _ (λ q b. get_insert (record_map own) a r q ∙ ap (λ o. cond (eqb q a) (Some r) o) (get_kept own q b) ∙ sym (e q)) above where
  above : (q : ℕ) → 65536 ≤ q → finmap.get (finmap.insert (record_map own) a r) q ≡ None
  above q b = elim (eqb_tells q a) [
    | inl same ↦ absurd (let f : q ≡ a = same.1 in omega arith)
    | inr other ↦ get_insert (record_map own) a r q ∙ rw other.0 (get_past own q b)
  ]
