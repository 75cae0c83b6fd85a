-- A file after a write.
use Rattle.std.proofs.Common.{◌≡◌, ℕ, zero, suc, ◌+◌, ◌-◌, ◌<◌, ◌≤◌, Bool, true, false, cond, eqb, nat_lt, List, ◌∷◌, ◌++◌, length, map, replicate, set, get_or, Option, Some, None, refl, sym, ap, ◌∙◌, arith, inl, inr}
use Rattle.std.proofs.Common.{length-set}
use Rattle.std.proofs.Math.ListN.{get_or-append}
use Rattle.std.proofs.lemmas.Bool.{cases_lt}
use Rattle.std.proofs.lemmas.Bool.Decides.{eqb_tells}
use Rattle.std.proofs.lemmas.List.{same_lists, length-append, length-replicate, get_or-append_right, get_or-replicate}
use Rattle.std.proofs.lemmas.List.FromFn.{get_or-map-range_with_len, length-map-range_with_len}
use Rattle.std.specs.List.{range_with_len}
use Rattle.std.specs.FinMap.{get, insert}
use Rattle.records.specs.Records.{RecordMap, zeros, zeros_at}
use Rattle.records.proofs.KeptLemmas.{get_insert}
use Rattle.records.proofs.Laws.{set_read}
use Rattle.hostfiles.specs.Hosts.{Key, Record, Host}
use Rattle.hostfiles.specs.Files.{OwnFiles, written_or_host_record, is_host_part, is_there, base_records, record_or_hole, length_by, length_of, length_at, host_end_after_growth, file_of, files, entry_at, growth_after, records_with_gap, entry_after_write, after_write}
use Rattle.hostfiles.specs.File.{File, gap_record, with_record}
use Rattle.hostfiles.specs.Laid.{HasNoRecordPastEnd}
use Rattle.hostfiles.specs.declared.journal.Gap.{Gap}
use Rattle.hostfiles.specs.declared.journal.Gap.TheVariants.{Holes, Zeros}
use Rattle.hostfiles.specs.declared.journal.Growth.{Growth}
use Rattle.hostfiles.specs.declared.journal.Entry.{Entry}
use Rattle.hostfiles.proofs.FileLemmas.{get-files}
use Rattle.hostfiles.proofs.LaidLemmas.{below, not_below, files-insert, some_cond}

-- If there is no record when the host file's records count, it does not matter whether they count.
past_end : (u : List Record) (p : ℕ) (o : Option Record) → written_or_host_record u p o true ≡ None → written_or_host_record u p o false ≡ written_or_host_record u p o true
past_end u p None h = sym h
past_end u p (Some r) h = refl

limit_kept : (u : List Record) (n k p : ℕ) (o : Option Record) (g : Option Growth) → (n ≤ p → written_or_host_record u p o (is_host_part p g) ≡ None)
    → written_or_host_record u p o (nat_lt p (host_end_after_growth n g)) ≡ written_or_host_record u p o (is_host_part p g)
limit_kept u n k p o (Some g) h = refl
limit_kept u n k p o None h = elim (cases_lt p n) [
  | inl in_file ↦ ap (written_or_host_record u p o) (below p n in_file)
  | inr past ↦ ap (written_or_host_record u p o) (not_below p n past) ∙ past_end u p o (h past)
]

pub grown_kept : (u : List Record) (n k p : ℕ) (o : Option Record) (g : Option Growth) → (n ≤ p → written_or_host_record u p o (is_host_part p g) ≡ None)
    → written_or_host_record u p o (is_host_part p (growth_after n k g)) ≡ written_or_host_record u p o (is_host_part p g)
grown_kept u n k p o g h = elim (nat_lt k n) as (λ b. written_or_host_record u p o (is_host_part p (cond b g (Some (record { host_end = host_end_after_growth n g; length = k + 1 })))) ≡ written_or_host_record u p o (is_host_part p g)) [
  | true ↦ refl
  | false ↦ limit_kept u n k p o g h
]

pub taken : (b : Bool) (u : List Record) (p : ℕ) (r : Record) (o : Option Record) (c : Bool) → written_or_host_record u p (cond b (Some r) o) c ≡ cond b (Some r) (written_or_host_record u p o c)
taken true u p r o c = refl
taken false u p r o c = refl

-- The length after a write.
pub length_wrote : (host : Host) (key : Key) (e : Entry) (gap : Gap) (k : ℕ) (r : Record) → length_of host key (entry_after_write gap (length_of host key e) k r e) ≡ cond (nat_lt k (length_of host key e)) (length_of host key e) (k + 1)
length_wrote host key e gap k r = elim (nat_lt k (length_of host key e)) as (λ b. length_by (length (base_records host key e)) (cond b e.grown (Some (record { host_end = host_end_after_growth (length_of host key e) e.grown; length = k + 1 }))) ≡ cond b (length_of host key e) (k + 1)) [
  | true ↦ refl
  | false ↦ refl
]

pub longer : (N k : ℕ) → cond (nat_lt k N) N (k + 1) ≡ N + (k + 1 - N)
longer N k = elim (cases_lt k N) [
  | inl l ↦ let same : N ≡ N + (k + 1 - N) = omega arith in ap (λ b. cond b N (k + 1)) (below k N l) ∙ same
  | inr l ↦ let same : k + 1 ≡ N + (k + 1 - N) = omega arith in ap (λ b. cond b N (k + 1)) (not_below k N l) ∙ same
]

-- A list of records, made longer by others, with one record written.
module _ (P : ℕ → Option Record) (N k : ℕ) (r : Record) (z : Option Record) (past : (p : ℕ) → N ≤ p → P p ≡ z) where
  abbrev places : File
  places = map P (range_with_len 0 N)

  abbrev room : File
  room = places ++ replicate (k + 1 - length places) z

  count : length places ≡ N
  count = length-map-range_with_len P 0 N

  room_count : length room ≡ N + (k + 1 - N)
  room_count = length-append places (replicate (k + 1 - length places) z) ∙ ap (λ n. length places + n) (length-replicate (k + 1 - length places) z) ∙ ap (λ n. n + (k + 1 - n)) count

  in_room : (i : ℕ) (d : Option Record) → i < N + (k + 1 - N) → get_or room i d ≡ P i
  in_room i d h = elim (cases_lt i N) [
    | inl l ↦
        let short = count in
        let at : 0 + i ≡ i = omega arith in
        get_or-append places (replicate (k + 1 - length places) z) d i (omega arith) ∙ get_or-map-range_with_len P 0 N i i d l at
    | inr l ↦
        let short = count in
        get_or-append_right places (replicate (k + 1 - length places) z) N i d count l ∙ get_or-replicate (k + 1 - length places) (i - N) z d (omega arith) ∙ sym (past i l)
  ]

  pub list_written : (Q : ℕ → Option Record) (M : ℕ) → M ≡ cond (nat_lt k N) N (k + 1) → ((p : ℕ) → p < N + (k + 1 - N) → Q p ≡ cond (eqb p k) (Some r) (P p)) → map Q (range_with_len 0 M) ≡ set room k (Some r)
  list_written Q M m q =
      let all = length-map-range_with_len Q 0 M in
      let size : M ≡ N + (k + 1 - N) = m ∙ longer N k in
      let room_size = room_count in
      same_lists (map Q (range_with_len 0 M)) (set room k (Some r))
      (all ∙ size ∙ sym room_size ∙ sym (length-set room k (Some r)))
      (λ i d h.
      let at : 0 + i ≡ i = omega arith in
      let inside : i < M = omega arith in
      let within : i < N + (k + 1 - N) = omega arith in
      get_or-map-range_with_len Q 0 M i i d inside at ∙ q i within ∙ ap (cond (eqb i k) (Some r)) (sym (in_room i d within))
      ∙ sym (set_read room k (Some r) d (omega arith) i))

-- ---- the records of the gap

apart_at : (p k : ℕ) → (p ≡ k → ⊥) → eqb p k ≡ false
apart_at p k h = elim (eqb_tells p k) [ inl same ↦ absurd (h same.1) | inr other ↦ other.0 ]

zeros_before : (m : RecordMap) (from c p : ℕ) → p < from → get (zeros_at m from c) p ≡ get m p
unfolding zeros_at
zeros_before m from zero p h = refl
zeros_before m from (suc c) p h =
    get_insert (zeros_at m from c) (from + c) zeros p
    ∙ ap (λ b. cond b (Some zeros) (get (zeros_at m from c) p)) (apart_at p (from + c) (λ (e : p ≡ from + c). absurd (omega arith))) ∙ zeros_before m from c p h

zeros_in : (m : RecordMap) (from c p : ℕ) → from ≤ p → p < from + c → get (zeros_at m from c) p ≡ Some zeros
unfolding zeros_at
zeros_in m from zero p low high = absurd (omega arith)
zeros_in m from (suc c) p low high =
    get_insert (zeros_at m from c) (from + c) zeros p
    ∙ elim (eqb_tells p (from + c)) [
      | inl same ↦ ap (λ b. cond b (Some zeros) (get (zeros_at m from c) p)) same.0
      | inr other ↦ ap (λ b. cond b (Some zeros) (get (zeros_at m from c) p)) other.0 ∙ zeros_in m from c p low (let apart = other.1 in omega arith)
    ]

-- The records of the file, and those of the gap after them.
abbrev with_gap : Gap → (ℕ → Option Record) → ℕ → ℕ → Option Record
with_gap gap P n p = cond (nat_lt p n) (P p) (gap_record gap)

gap_before : (gap : Gap) (n k : ℕ) (m : RecordMap) (p : ℕ) → p < n → get (records_with_gap gap n k m) p ≡ get m p
gap_before Holes n k m p h = refl
gap_before Zeros n k m p h = elim (nat_lt n k) as (λ b. get (cond b (zeros_at m n (k - n)) m) p ≡ get m p) [ true ↦ zeros_before m n (k - n) p h | false ↦ refl ]

gap_in : (gap : Gap) (u : List Record) (n k p : ℕ) (e : Entry) → n ≤ p → p < k → (gap ≡ Holes → written_or_host_record u p (get e.records p) (is_host_part p e.grown) ≡ None)
    → written_or_host_record u p (get (records_with_gap gap n k e.records) p) (is_host_part p (growth_after n k e.grown)) ≡ gap_record gap
gap_in Holes u n k p e low high none = grown_kept u n k p (get e.records p) e.grown (λ _. none refl) ∙ none refl
gap_in Zeros u n k p e low high none =
    ap (λ o. written_or_host_record u p o (is_host_part p (growth_after n k e.grown)))
    (ap (λ b. get (cond b (zeros_at e.records n (k - n)) e.records) p) (below n k (omega arith)) ∙ zeros_in e.records n (k - n) p low (omega arith))

-- Each record number other than k.
record_kept : (gap : Gap) (u : List Record) (n k p : ℕ) (e : Entry) → p < n + (k + 1 - n) → eqb p k ≡ false
    → (gap ≡ Holes → n ≤ p → written_or_host_record u p (get e.records p) (is_host_part p e.grown) ≡ None)
    → written_or_host_record u p (get (records_with_gap gap n k e.records) p) (is_host_part p (growth_after n k e.grown)) ≡ with_gap gap (λ q. written_or_host_record u q (get e.records q) (is_host_part q e.grown)) n p
record_kept gap u n k p e h apart none = elim (cases_lt p n) [
  | inl l ↦
      ap (λ o. written_or_host_record u p o (is_host_part p (growth_after n k e.grown))) (gap_before gap n k e.records p l)
      ∙ grown_kept u n k p (get e.records p) e.grown (λ (over : n ≤ p). absurd (omega arith))
      ∙ sym (ap (λ b. cond b (written_or_host_record u p (get e.records p) (is_host_part p e.grown)) (gap_record gap)) (below p n l))
  | inr l ↦
      gap_in gap u n k p e l (elim (eqb_tells p k) [ inl same ↦ (let t : true ≡ false = sym same.0 ∙ apart in cc) | inr other ↦ (let far = other.1 in omega arith) ]) (λ holes. none holes l)
      ∙ sym (ap (λ b. cond b (written_or_host_record u p (get e.records p) (is_host_part p e.grown)) (gap_record gap)) (not_below p n l))
]

record_wrote : (host : Host) (key : Key) (e : Entry) (gap : Gap) (n k : ℕ) (r : Record) (p : ℕ) → p < n + (k + 1 - n) → (gap ≡ Holes → n ≤ p → record_or_hole host key e p ≡ None)
    → record_or_hole host key (entry_after_write gap n k r e) p ≡ cond (eqb p k) (Some r) (with_gap gap (record_or_hole host key e) n p)
record_wrote host key e gap n k r p h none =
    ap (λ o. written_or_host_record (base_records host key e) p o (is_host_part p (growth_after n k e.grown))) (get_insert (records_with_gap gap n k e.records) k r p)
    ∙ taken (eqb p k) (base_records host key e) p r (get (records_with_gap gap n k e.records) p) (is_host_part p (growth_after n k e.grown))
    ∙ elim (eqb p k) as (λ b. eqb p k ≡ b → cond b (Some r) (written_or_host_record (base_records host key e) p (get (records_with_gap gap n k e.records) p) (is_host_part p (growth_after n k e.grown))) ≡ cond b (Some r) (with_gap gap (record_or_hole host key e) n p)) [
      | true ↦ λ b. refl
      | false ↦ λ b. record_kept gap (base_records host key e) n k p e h b none
    ] refl

same_places : (f g : ℕ → Option Record) (a n : ℕ) → ((i : ℕ) → i < a + n → f i ≡ g i) → map f (range_with_len a n) ≡ map g (range_with_len a n)
same_places f g a zero h = refl
same_places f g a (suc n) h = ap (λ x. x ∷ map f (range_with_len (a + 1) n)) (h a (omega arith)) ∙ ap (λ xs. g a ∷ xs) (same_places f g (a + 1) n (λ i l. h i (omega arith)))

file_wrote : (host : Host) (key : Key) (e : Entry) (gap : Gap) (k : ℕ) (r : Record) → (gap ≡ Holes → (p : ℕ) → length_of host key e ≤ p → record_or_hole host key e p ≡ None)
    → file_of host key (entry_after_write gap (length_of host key e) k r e) ≡ with_record gap k r (file_of host key e)
file_wrote host key e gap k r past =
    let n = length_of host key e in
    list_written (with_gap gap (record_or_hole host key e) n) n k r (gap_record gap) (λ p l. ap (λ b. cond b (record_or_hole host key e p) (gap_record gap)) (not_below p n l))
    (record_or_hole host key (entry_after_write gap n k r e)) (length_of host key (entry_after_write gap n k r e)) (length_wrote host key e gap k r)
    (λ p h. record_wrote host key e gap n k r p h (λ holes. past holes p))
    ∙ ap (λ f. with_record gap k r f) (same_places (with_gap gap (record_or_hole host key e) n) (record_or_hole host key e) 0 n
    (λ i l. let within : i < n = omega arith in ap (λ b. cond b (record_or_hole host key e i) (gap_record gap)) (below i n within)))

pub files-wrote : (host : Host) (own : OwnFiles) (gap : Gap) (key : Key) (k : ℕ) (r : Record) (f : File) → (gap ≡ Holes → HasNoRecordPastEnd host own key) → get (files host own) key ≡ Some f
    → files host (after_write gap (length_at host own key) own key k r) ≡ insert (files host own) key (with_record gap k r f)
files-wrote host own gap key k r f past h =
    let e = entry_at own key in
    let there = some_cond (is_there host key e.base) (file_of host key e) f (sym (get-files host own key) ∙ h) in
    files-insert host own key (entry_after_write gap (length_at host own key) k r e) (with_record gap k r f)
    (ap (λ b. cond b (Some (file_of host key (entry_after_write gap (length_at host own key) k r e))) None) there.0
    ∙ ap (λ x. Some x) (file_wrote host key e gap k r past) ∙ ap (λ x. Some (with_record gap k r x)) there.1)
