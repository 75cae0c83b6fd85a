-- The records in the contents of a file.
use Rattle.std.proofs.Common.{◌≡◌, ◌<◌, ◌≤◌, ℕ, Bool, true, false, cond, List, [], length, zero-le, Option, Some, None, refl, sym, ap, ◌∙◌, arith, unwrap_or}
use Rattle.std.specs.Option.{option_map, option_and_then}
use Rattle.std.specs.List.{slice_get}
use Rattle.std.proofs.lemmas.Option.{slice_get-get_or, slice_get_past}
use Rattle.records.specs.Records.{zeros}
use Rattle.hostfiles.specs.Hosts.{Key, Record, Host}
use Rattle.hostfiles.specs.Files.{OwnFiles, has, entry_at, record_or_hole, length_at, file_of, records, file_contents}
use Rattle.hostfiles.specs.File.{contents_of}
use Rattle.hostfiles.proofs.Differences.{length_of_contents, record_of_contents}

pub contents_length : (host : Host) (own : OwnFiles) (key : Key) → records host own key ≡ option_map length (file_contents host own key)
contents_length host own key = elim (has host own key) as (λ b. cond b (Some (length_at host own key)) None ≡ option_map length (option_map contents_of (cond b (Some (file_of host key (entry_at own key))) None))) [
  | true ↦ ap Some (sym (length_of_contents host key (entry_at own key)))
  | false ↦ refl
]

abbrev content_at : Host → OwnFiles → Key → ℕ → Option Record
content_at host own key k = option_and_then (λ f. slice_get f k) (file_contents host own key)

by_presence : (host : Host) (own : OwnFiles) (key : Key) (k : ℕ) (b : Bool) → has host own key ≡ b
    → content_at host own key k ≡ option_and_then (λ f. slice_get f k) (option_map contents_of (cond b (Some (file_of host key (entry_at own key))) None))
by_presence host own key k b h = ap (λ b. option_and_then (λ f. slice_get f k) (option_map contents_of (cond b (Some (file_of host key (entry_at own key))) None))) h

pub content_absent : (host : Host) (own : OwnFiles) (key : Key) (k : ℕ) → has host own key ≡ false → None ≡ content_at host own key k
content_absent host own key k h = sym (by_presence host own key k false h)

pub content_past : (host : Host) (own : OwnFiles) (key : Key) (k : ℕ) → has host own key ≡ true → length_at host own key ≤ k → None ≡ content_at host own key k
content_past host own key k h past =
    let long = length_of_contents host key (entry_at own key) in
    sym (by_presence host own key k true h ∙ slice_get_past (contents_of (file_of host key (entry_at own key))) k (omega arith))

pub content_within : (host : Host) (own : OwnFiles) (key : Key) (k : ℕ) (r : Record) → has host own key ≡ true → k < length_at host own key
    → unwrap_or (record_or_hole host key (entry_at own key) k) zeros ≡ r → Some r ≡ content_at host own key k
content_within host own key k r h below at =
    let long = length_of_contents host key (entry_at own key) in
    sym (by_presence host own key k true h ∙ slice_get-get_or (contents_of (file_of host key (entry_at own key))) k zeros (omega arith)
    ∙ ap Some (record_of_contents host key (entry_at own key) k zeros below ∙ at))

-- ---- a record of the contents, if there is a file

padded_record_at : (t : Option (List Record)) (k : ℕ) → option_and_then (λ f. slice_get f k) t ≡ slice_get (unwrap_or t []) k
padded_record_at None k = sym (slice_get_past [] k zero-le)
padded_record_at (Some f) k = refl

pub record_here : (t : Option (List Record)) (k : ℕ) (r : Record) → Some r ≡ option_and_then (λ f. slice_get f k) t → slice_get (unwrap_or t []) k ≡ Some r
record_here t k r h = sym (h ∙ padded_record_at t k)

pub no_record : (t : Option (List Record)) (k : ℕ) → k < length (unwrap_or t []) → None ≡ option_and_then (λ f. slice_get f k) t → ⊥
no_record t k h none = let some = slice_get-get_or (unwrap_or t []) k [] h in let same = padded_record_at t k in cc
