-- One file, from the answers of the host files.
use Rattle.std.proofs.Common.{◌≡◌, ℕ, ◌<◌, ◌≤◌, Bool, true, false, ◌&&◌, ◌||◌, List, [], length, map, Option, Some, None, is_some, unwrap_or, slice_get, nat_lt, refl, sym, ap, subst, ◌∙◌, arith, inl, inr, rules}
use Rattle.std.proofs.lemmas.Bool.{cases_lt}
use Rattle.std.proofs.lemmas.Option.{slice_get_past, slice_get-get_or}
use Rattle.std.proofs.lemmas.Simd.{map-map}
use Rattle.std.specs.List.{range_with_len}
use Rattle.std.specs.Option.{option_map}
use Rattle.std.specs.FinMap.{get}
use Rattle.interaction_trees.specs.Tree.{result_of}
use Rattle.hostfiles.specs.Hosts.{Key, Record, Host}
use Rattle.hostfiles.specs.Files.{base_records, host_records, base_key, is_there, is_host_part, length_by, length_of, written_or_host_record, record_or_hole, file_of}
use Rattle.hostfiles.specs.File.{shape_of}
use Rattle.hostfiles.specs.declared.journal.Base.{Base}
use Rattle.hostfiles.specs.declared.journal.Base.TheVariants.{Same, Gone, New, Moved}
use Rattle.hostfiles.specs.declared.journal.Growth.{Growth}
use Rattle.hostfiles.specs.declared.journal.Entry.{Entry}
use Rattle.file_calls.specs.HostTrees.{host_answers, there_tree, shape_tree, shape_with, host_record_tree, record_tree, host_end_of}

pub there_is : (host : Host) (key : Key) (b : Base) → result_of (host_answers host) (there_tree key b) ≡ is_there host key b
there_is host key Same = refl
there_is host key Gone = refl
there_is host key New = refl
there_is host key (Moved old) = refl

-- A host file has a record exactly at the record numbers below its length.
in_host : (u : List Record) (k : ℕ) → is_some (slice_get u k) ≡ nat_lt k (length u)
in_host u k = elim (cases_lt k (length u)) [
  | inl l ↦ let within : nat_lt k (length u) ≡ true = search rules in ap is_some (slice_get-get_or u k [] l) ∙ sym within
  | inr l ↦ let past : nat_lt k (length u) ≡ false = search rules in ap is_some (slice_get_past u k l) ∙ sym past
]

stands : (u : List Record) (k : ℕ) (r : Option Record) (below : Bool) → is_some (written_or_host_record u k r below) ≡ (is_some r || (below && nat_lt k (length u)))
stands u k (Some r) below = refl
stands u k None true = in_host u k
stands u k None false = refl

pub shape_is : (host : Host) (key : Key) (e : Entry) → shape_with (length (base_records host key e)) e ≡ shape_of (file_of host key e)
unfolding shape_with
shape_is host key e = sym (map-map is_some (record_or_hole host key e) (range_with_len 0 (length_of host key e))
    ∙ ap (λ (f : ℕ → Bool). map f (range_with_len 0 (length_of host key e))) (λ i k. stands (base_records host key e) k (get e.records k) (is_host_part k e.grown) i))

-- The lengths are those of the host files.
counted : (host : Host) (key : Key) → unwrap_or (option_map length (get host key)) 0 ≡ length (host_records host (Some key))
counted host key = elim (get host key) as (λ o. unwrap_or (option_map length o) 0 ≡ length (unwrap_or o [])) [ None ↦ refl | Some f ↦ refl ]

-- A file that was made longer.
and_below : (a b : Bool) → (a ≡ true → b ≡ true) → (a && a) ≡ (a && b)
and_below true b h = sym (h refl)
and_below false b h = refl

below_all : (k from n : ℕ) → from ≤ n → nat_lt k from ≡ true → nat_lt k n ≡ true
below_all k from n h e = elim (cases_lt k from) [
  | inl l ↦ let m : k < n = omega arith in search rules
  | inr l ↦ let no : nat_lt k from ≡ false = search rules in cc
]

grown_is : (host : Host) (key : Key) (e : Entry) (g : Growth) → e.grown ≡ Some g → g.host_end ≤ length (base_records host key e) → shape_with g.host_end e ≡ shape_with (length (base_records host key e)) e
unfolding shape_with
grown_is host key e g is h =
    let by : (o : Option Growth) → o ≡ Some g → map (λ k. is_some (get e.records k) || (is_host_part k o && nat_lt k g.host_end)) (range_with_len 0 (length_by g.host_end o))
    ≡ map (λ k. is_some (get e.records k) || (is_host_part k o && nat_lt k (length (base_records host key e)))) (range_with_len 0 (length_by (length (base_records host key e)) o)) = λ o x. rw x
    (ap (λ (f : ℕ → Bool). map f (range_with_len 0 g.length)) (λ i k. is_some (get e.records k) || and_below (nat_lt k g.host_end) (nat_lt k (length (base_records host key e))) (below_all k g.host_end (length (base_records host key e)) h) i)) in
    by e.grown is

pub shape_here_is : (host : Host) (key : Key) (e : Entry) → host_end_of e.grown ≤ length (base_records host key e)
    → result_of (host_answers host) (shape_tree key e.base e.grown e) ≡ shape_of (file_of host key e)
shape_here_is host key e sound = by_grown e.grown refl ∙ shape_is host key e where
  by_base : (b : Base) → e.base ≡ b → result_of (host_answers host) (shape_tree key b None e) ≡ shape_with (length (base_records host key e)) e
  by_base Same is = ap (λ n. shape_with n e) (counted host key ∙ ap (λ b. length (host_records host (base_key key b))) (sym is))
  by_base Gone is = ap (λ n. shape_with n e) (ap (λ b. length (host_records host (base_key key b))) (sym is))
  by_base New is = ap (λ n. shape_with n e) (ap (λ b. length (host_records host (base_key key b))) (sym is))
  by_base (Moved old) is = ap (λ n. shape_with n e) (counted host old ∙ ap (λ b. length (host_records host (base_key key b))) (sym is))

  by_grown : (o : Option Growth) → e.grown ≡ o → result_of (host_answers host) (shape_tree key e.base o e) ≡ shape_with (length (base_records host key e)) e
  by_grown None is = by_base e.base refl
  by_grown (Some g) is = grown_is host key e g is (subst (λ (o : Option Growth). host_end_of o ≤ length (base_records host key e)) is sound)

-- The record at a record number.
pub content_is : (host : Host) (key : Key) (k : ℕ) (e : Entry) → result_of (host_answers host) (record_tree key k e.base (get e.records k) (is_host_part k e.grown)) ≡ record_or_hole host key e k
content_is host key k e = by (get e.records k) (is_host_part k e.grown) where
  by_base : (b : Base) → result_of (host_answers host) (host_record_tree key k b) ≡ slice_get (host_records host (base_key key b)) k
  by_base Same = refl
  by_base Gone = refl
  by_base New = refl
  by_base (Moved old) = refl

  by : (r : Option Record) (below : Bool) → result_of (host_answers host) (record_tree key k e.base r below) ≡ written_or_host_record (base_records host key e) k r below
  by (Some r) below = refl
  by None true = by_base e.base
  by None false = refl
