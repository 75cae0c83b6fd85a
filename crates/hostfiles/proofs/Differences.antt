-- The contents of a file, compared with its host file.
use Rattle.std.proofs.Common.{◌≡◌, ◌≢◌, ◌<◌, ◌+◌, ℕ, Bool, true, false, true≢false, cond, not, is_some, List, [], length, get_or, Option, Some, None, Decides, refl, sym, ap, ◌∙◌, arith, unwrap_or}
use Rattle.std.specs.Option.{option_map}
use Rattle.std.specs.List.{slice_get}
use Rattle.std.specs.Str.{bytes_eq}
use Rattle.std.specs.Cmp.Lexicographic.{pointwise, pointwise_decides, bytes_decides}
use Rattle.std.specs.FinMap.{get, get-empty}
use Rattle.std.proofs.lemmas.List.{same_lists, get_or-map, length-map, get_or_default}
use Rattle.std.proofs.lemmas.List.FromFn.{get_or-map-range_with_len, length-map-range_with_len}
use Rattle.std.proofs.lemmas.Option.{unwrap_or-slice_get}
use Rattle.std.specs.Ordering.{nat_cmp}
use Rattle.records.specs.Records.{zeros}
use Rattle.hostfiles.specs.Hosts.{Key, Record, Host}
use Rattle.hostfiles.specs.Files.{OwnFiles, has, untouched_entry, entry_at, is_there, record_or_hole, written_or_host_record, is_host_part, length_of, length_at, file_of, host_records, base_key, file_contents}
use Rattle.hostfiles.specs.File.{contents_of}
use Rattle.hostfiles.specs.declared.journal.Entry.{Entry}
use Rattle.hostfiles.specs.declared.journal.Base.TheVariants.{Same}
use Rattle.hostfiles.specs.Changed.{is_changed, ChangedIsOther}
use Rattle.hostfiles.specs.File.{is_same}

pub records_decide : (a b : List Record) → Decides (pointwise bytes_eq a b) (a ≡ b)
records_decide = pointwise_decides bytes_decides

-- ---- the contents of a file

pub length_of_contents : (host : Host) (key : Key) (e : Entry) → length (contents_of (file_of host key e)) ≡ length_of host key e
length_of_contents host key e = length-map (file_of host key e) (λ r. unwrap_or r zeros) ∙ length-map-range_with_len (record_or_hole host key e) 0 (length_of host key e)

pub record_of_contents : (host : Host) (key : Key) (e : Entry) (k : ℕ) (d : Record) → k < length_of host key e
    → get_or (contents_of (file_of host key e)) k d ≡ unwrap_or (record_or_hole host key e k) zeros
record_of_contents host key e k d h =
    let count = length-map-range_with_len (record_or_hole host key e) 0 (length_of host key e) in
    let at : 0 + k ≡ k = omega arith in
    get_or-map (λ r. unwrap_or r zeros) (file_of host key e) k None d (omega arith)
    ∙ ap (λ r. unwrap_or r zeros) (get_or-map-range_with_len (record_or_hole host key e) 0 (length_of host key e) k k None h at)

-- ---- whether it is changed

pub changed_by : (host : Host) (own : OwnFiles) (key : Key) (b : Bool) (f : Option (List Record)) → has host own key ≡ b → get host key ≡ f
    → is_changed host own key ≡ not (is_same (option_map contents_of (cond b (Some (file_of host key (entry_at own key))) None)) f)
changed_by host own key b f there here =
    ap (λ c. not (is_same (option_map contents_of (cond c (Some (file_of host key (entry_at own key))) None)) (get host key))) there
    ∙ ap (λ g. not (is_same (option_map contents_of (cond b (Some (file_of host key (entry_at own key))) None)) g)) here

not_true : (b : Bool) → b ≡ true → not b ≡ false
not_true b h = ap not h

not_false : (b : Bool) → (b ≡ true → ⊥) → not b ≡ true
not_false true h = absurd (h refl)
not_false false h = refl

false_of : (b : Bool) → not b ≡ true → b ≡ false
false_of true h = sym h
false_of false h = refl

true_of : (t : Bool) → not t ≡ false → t ≡ true
true_of true h = refl
true_of false h = sym h

-- Both have the same records.
pub same_file : (f g : List Record) → f ≡ g → not (pointwise bytes_eq f g) ≡ false
same_file f g h = not_true (pointwise bytes_eq f g) ((records_decide f g).1 h)

pub other_file : (f g : List Record) → (f ≡ g → ⊥) → not (pointwise bytes_eq f g) ≡ true
other_file f g h = not_false (pointwise bytes_eq f g) (λ e. h ((records_decide f g).0 e))

-- If each record is the host file's, so are the contents.
pub same_contents : (host : Host) (key : Key) (e : Entry) (f : List Record) → length_of host key e ≡ length f
    → ((k : ℕ) → k < length f → unwrap_or (record_or_hole host key e k) zeros ≡ get_or f k zeros) → contents_of (file_of host key e) ≡ f
same_contents host key e f long each =
    let size = length_of_contents host key e in
    same_lists (contents_of (file_of host key e)) f (size ∙ long)
    (λ k d h. let below : k < length f = omega arith in let within : k < length_of host key e = omega arith in
    record_of_contents host key e k d within ∙ each k below ∙ get_or_default f k zeros d below)

pub same_records : (host : Host) (key : Key) (e : Entry) (f : List Record) → length_of host key e ≡ length f
    → ((k : ℕ) → k < length f → unwrap_or (record_or_hole host key e k) zeros ≡ get_or f k zeros) → false ≡ not (pointwise bytes_eq (contents_of (file_of host key e)) f)
same_records host key e f long each = sym (same_file (contents_of (file_of host key e)) f (same_contents host key e f long each))

-- If one record is not the host file's, the contents are not.
pub other_record : (host : Host) (key : Key) (e : Entry) (f : List Record) (k : ℕ) → length_of host key e ≡ length f → k < length f
    → not (bytes_eq (unwrap_or (record_or_hole host key e k) zeros) (get_or f k zeros)) ≡ true → true ≡ not (pointwise bytes_eq (contents_of (file_of host key e)) f)
other_record host key e f k long h differs = sym (other_file (contents_of (file_of host key e)) f (λ same.
    let within : k < length_of host key e = omega arith in
    let one : unwrap_or (record_or_hole host key e k) zeros ≡ get_or f k zeros = sym (record_of_contents host key e k zeros within) ∙ ap (λ g. get_or g k zeros) same in
    let equal : bytes_eq (unwrap_or (record_or_hole host key e k) zeros) (get_or f k zeros) ≡ true = (bytes_decides (unwrap_or (record_or_hole host key e k) zeros) (get_or f k zeros)).1 one in
    true≢false (sym equal ∙ false_of _ differs)))

-- The record with this number is the host file's.
pub equal_record : (a b : Record) → not (bytes_eq a b) ≡ false → a ≡ b
equal_record a b h = (bytes_decides a b).0 (true_of (bytes_eq a b) h)

-- ---- a file to which nothing was done

-- An unwritten record of a file that comes from its own host file and has not grown.
pub own_record : (host : Host) (key : Key) (e : Entry) (f : List Record) (k : ℕ) → e.base ≡ Same → e.grown ≡ None → get e.records k ≡ None → get host key ≡ Some f → k < length f
    → unwrap_or (record_or_hole host key e k) zeros ≡ get_or f k zeros
own_record host key e f k base grown none here h =
    ap (λ b. unwrap_or (written_or_host_record (host_records host (base_key key b)) k (get e.records k) (is_host_part k e.grown)) zeros) base
    ∙ ap (λ g. unwrap_or (written_or_host_record (host_records host (Some key)) k (get e.records k) (is_host_part k g)) zeros) grown
    ∙ ap (λ r. unwrap_or (written_or_host_record (host_records host (Some key)) k r true) zeros) none
    ∙ ap (λ g. unwrap_or (slice_get (unwrap_or g []) k) zeros) here
    ∙ unwrap_or-slice_get f k zeros

untouched_by : (host : Host) (own : OwnFiles) (key : Key) (f : Option (List Record)) → get host key ≡ f → get own key ≡ None → is_changed host own key ≡ false
untouched_by host own key None here none =
    changed_by host own key false None (ap (λ e. is_there host key (unwrap_or e untouched_entry).base) none ∙ ap is_some here) here
untouched_by host own key (Some f) here none =
    let entry : entry_at own key ≡ untouched_entry = ap (λ e. unwrap_or e untouched_entry) none in
    let long : length_of host key untouched_entry ≡ length f = ap (λ g. length (unwrap_or g [])) here in
    changed_by host own key true (Some f) (ap (λ e. is_there host key (unwrap_or e untouched_entry).base) none ∙ ap is_some here) here
    ∙ ap (λ e. not (pointwise bytes_eq (contents_of (file_of host key e)) f)) entry
    ∙ same_file (contents_of (file_of host key untouched_entry)) f (same_contents host key untouched_entry f long
    (λ k h. own_record host key untouched_entry f k refl refl (get-empty nat_cmp k) here h))

pub untouched_file : (host : Host) (own : OwnFiles) (key : Key) → get own key ≡ None → is_changed host own key ≡ false
untouched_file host own key none = untouched_by host own key (get host key) refl none

-- A file of another length is changed.
pub other_length : (host : Host) (own : OwnFiles) (key : Key) (f : List Record) → has host own key ≡ true → get host key ≡ Some f → length_at host own key ≢ length f → is_changed host own key ≡ true
other_length host own key f there here long =
    changed_by host own key true (Some f) there here
    ∙ other_file (contents_of (file_of host key (entry_at own key))) f (λ same. long (sym (length_of_contents host key (entry_at own key)) ∙ ap length same))

-- ---- the law

same_option : (a b : Option (List Record)) → Decides (is_same a b) (a ≡ b)
same_option None None = ((λ h. refl), λ h. refl)
same_option None (Some b) = ((λ h. cc), λ h. cc)
same_option (Some a) None = ((λ h. cc), λ h. cc)
same_option (Some a) (Some b) = ((λ h. ap Some ((records_decide a b).0 h)), λ h. (records_decide a b).1 (let e : a ≡ b = cc in e))

pub changed_other : ChangedIsOther
changed_other host own key =
    let decides = same_option (file_contents host own key) (get host key) in
    ((λ h. decides.0 (true_of (is_same (file_contents host own key) (get host key)) h)), λ h. not_true (is_same (file_contents host own key) (get host key)) (decides.1 h))

-- ---- the same for the steps of the code

pub unwritten_same : (host : Host) (key : Key) (e : Entry) (f : List Record) (k : ℕ) → e.base ≡ Same → e.grown ≡ None → get e.records k ≡ None
    → get host key ≡ Some f → k < length f → false ≡ not (bytes_eq (unwrap_or (record_or_hole host key e k) zeros) (get_or f k zeros))
unwritten_same host key e f k base grown none here h =
    sym (not_true _ ((bytes_decides (unwrap_or (record_or_hole host key e k) zeros) (get_or f k zeros)).1 (own_record host key e f k base grown none here h)))

pub not_there : {X : Type 0} {x : X} (f : Option X) → f ≡ None → f ≡ Some x → ⊥
not_there f none some = cc
