-- The texts of a report, in pieces.
use Rattle.std.proofs.Common.{arith, map, ◌<◌, ◌/◌, ◌%◌, slice_index, Some, None, [], ◌∷◌, take-suc, add-one, append-nil, append_assoc, ◌≡◌, ℕ, ◌+◌, List, ◌++◌, length, take, Option, refl, sym, ap, ◌∙◌, inl, inr}
use Rattle.std.proofs.lemmas.Bool.{cases_lt}
use Rattle.std.specs.List.{concat, slice_get}
use Rattle.std.proofs.lemmas.Option.{get_or_from_slice_get, slice_get_past}
use Rattle.hostfiles.specs.Files.{OwnFiles, file_contents}
use Rattle.hostfiles.specs.Changed.{changed_names, changed_keys}
use Rattle.hostfiles.proofs.ChangedWalk.{keys_above, keys_above_none}
use Rattle.hex.specs.Hex.{encode_with, encode_lower, lower_digits}
use Rattle.filenames.specs.Names.{Key}
use Rattle.hostfiles.specs.Hosts.{Record, Host}
use Rattle.report_lines.specs.ChangedLines.{line_of_file, lines_of_files}
use Rattle.report_lines.specs.declared.changed_lines.FileFilter.{FileFilter}
use Rattle.machine.proofs.ChangedFileLemmas.{told_laid, changed_keys_laid}
use Rattle.hostfiles.specs.Files.{files}

-- ---- the digits of records

pub no_bytes : encode_lower [] ≡ []
unfolding encode_with
no_bytes = refl

pub no_digits : (xs : List ℕ) → length xs ≡ 0 → encode_lower xs ≡ []
no_digits [] h = no_bytes
no_digits (x ∷ xs) h = cc

pub encode-append : (xs ys : List ℕ) → encode_lower (xs ++ ys) ≡ encode_lower xs ++ encode_lower ys
unfolding encode_with
encode-append [] ys = refl
encode-append (x ∷ xs) ys = ap (λ t. slice_index lower_digits (x / 16) ∷ slice_index lower_digits (x % 16) ∷ t) (encode-append xs ys)

concat-push : (rs : List Record) (r : Record) → concat (rs ++ r ∷ []) ≡ concat rs ++ r
concat-push [] r = append-nil r
concat-push (q ∷ rs) r = ap (λ t. q ++ t) (concat-push rs r) ∙ sym (append_assoc q (concat rs) r)

within : (rs : List Record) (i : ℕ) (r : Record) → slice_get rs i ≡ Some r → i < length rs
within rs i r h = elim (cases_lt i (length rs)) [
  | inl below ↦ below
  | inr past ↦ absurd (let none : slice_get rs i ≡ None = slice_get_past rs i past in cc)
]

-- One more record.
pub one_record_more : (rs : List Record) (i : ℕ) (r : Record) → slice_get rs i ≡ Some r → concat (take i rs) ++ r ≡ concat (take (i + 1) rs)
one_record_more rs i r h =
    let below : i < length rs = within rs i r h in
    let one : take (i + 1) rs ≡ take i rs ++ r ∷ [] = rw add-one (take-suc rs i r below) ∙ ap (λ q. take i rs ++ q ∷ []) (get_or_from_slice_get rs i r r h) in
    sym (ap concat one ∙ concat-push (take i rs) r)

-- ---- the contents of a file

-- Equal files have equal contents.
pub same_contents : {host host' : Host} {own own' : OwnFiles} {key key' : Key} → host ≡ host' → own ≡ own' → key ≡ key' → file_contents host own key ≡ file_contents host' own' key'
same_contents h o k = cc

-- ---- a text of all changed files, of which each has a part

abbrev pub parts_above : (Key → List ℕ) → Host → OwnFiles → Option Key → List ℕ
parts_above part host own after = concat (map part (keys_above (changed_names host own) after))

abbrev pub all_parts : (Key → List ℕ) → Host → OwnFiles → List ℕ
all_parts part host own = concat (map part (changed_keys host own))

-- The line of a file, by what the run did to the host files.
abbrev pub own_line : FileFilter → Host → OwnFiles → Key → List ℕ
own_line filter host own key = line_of_file filter key (file_contents host own key)

pub lines_laid : (filter : FileFilter) (host : Host) (own : OwnFiles) → all_parts (own_line filter host own) host own ≡ lines_of_files filter host (files host own)
lines_laid filter host own = sym (λ i. concat (map (λ key. line_of_file filter key (told_laid host own key i)) (changed_keys_laid host own i)))

pub parts_begin : (part : Key → List ℕ) (host : Host) (own : OwnFiles) → parts_above part host own None ≡ all_parts part host own
parts_begin part host own = ap (λ ks. concat (map part ks)) (keys_above_none (changed_names host own))

pub fewer_keys : (host : Host) (own : OwnFiles) (after : Option Key) (k : Key) → keys_above (changed_names host own) after ≡ k ∷ keys_above (changed_names host own) (Some k)
    → length (keys_above (changed_names host own) (Some k)) < length (keys_above (changed_names host own) after)
fewer_keys host own after k split = let n = ap length split in omega (arith, n)
