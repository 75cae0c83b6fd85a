-- Steps that are noted and erased.
use Rattle.std.proofs.Common.{◌≡◌, ℕ, zero, suc, Bool, true, false, cond, ◌&&◌, ◌==◌, List, [], ◌∷◌, Option, Some, None, get_or, slice_set, length, ◌<◌, refl, sym, ap, subst, ◌∙◌, is_some, map, replicate, take, drop, ◌++◌, ◌+◌, inl, inr, eqb-true}
use Rattle.std.proofs.lemmas.List.{get_or-replicate, get_or_past, length-replicate}
use Rattle.std.proofs.lemmas.Bool.{cases_lt}
use Rattle.std.proofs.lemmas.List.Edits.{map_over_more}
use Rattle.std.specs.Ordering.{nat_cmp, eq_by_cmp}
use Rattle.std.specs.declared.cmp.Ordering.{Ordering}
use Rattle.std.specs.Cmp.{IsTotalOrder}
use Rattle.std.specs.Cmp.Lexicographic.{slice_cmp, nat_list_cmp_total}
use Rattle.std.specs.FinMap.{FinMap, IsAntisymmetric, get, insert, empty, get-insert, get-empty}
use Rattle.keymaps.proofs.Views.{same_key, key_of}
use Rattle.hostfiles.specs.Hosts.{Key}
use Rattle.hostfiles.specs.FileLooks.{is_same_ask}
use Rattle.hostfiles.specs.declared.looks.Ask.{Ask}
use Rattle.hostfiles.specs.declared.looks.Ask.TheVariants.{Has, Length, Rec, Directory}
use Rattle.first_looks.specs.declared.file_steps.FileSteps.{FileSteps}
use Rattle.first_looks.specs.RecordSteps.{RecordNotes, NotesRecord, SameRecordSteps, step_of_record}
use Rattle.first_looks.specs.FileSteps.{SameSteps, or_else, step_if, step_below, step_of_ask}

-- ---- notes

unmarked : (r : Option ℕ) (n : ℕ) → r ≡ or_else r (step_if false n)
unmarked None n = refl
unmarked (Some m) n = refl

marked : (b : Bool) (r : Option ℕ) (n : ℕ) → (b ≡ true → r ≡ None) → cond b (Some n) r ≡ or_else r (step_if b n)
marked true r n h = ap (λ x. or_else x (Some n)) (sym (h refl))
marked false r n h = unmarked r n

abbrev pub NotedAs : FileSteps → FileSteps → Ask → ℕ → Type 0
NotedAs old new ask step = (q : Ask) → step_of_ask new q ≡ or_else (step_of_ask old q) (step_if (is_same_ask q ask) step)

pub noted_already : (s : FileSteps) (ask : Ask) (step m : ℕ) → step_of_ask s ask ≡ Some m → (q : Ask) (b : Bool) → (b ≡ true → q ≡ ask) → step_of_ask s q ≡ or_else (step_of_ask s q) (step_if b step)
noted_already s ask step m there q true is = let e : step_of_ask s q ≡ Some m = ap (step_of_ask s) (is refl) ∙ there in rw e refl
noted_already s ask step m there q false is = unmarked (step_of_ask s q) step

both_true : (a b : Bool) → (a && b) ≡ true → (a ≡ true) × (b ≡ true)
both_true true b h = (refl, h)
both_true false b h = cc

pub same_ask_is : (q x : Ask) → is_same_ask q x ≡ true → q ≡ x
same_ask_is (Has a) (Has b) e = ap Has (key_of same_key a b e)
same_ask_is (Has a) (Length b) e = cc
same_ask_is (Has a) (Rec b k) e = cc
same_ask_is (Has a) (Directory d) e = cc
same_ask_is (Length a) (Has b) e = cc
same_ask_is (Length a) (Length b) e = ap Length (key_of same_key a b e)
same_ask_is (Length a) (Rec b k) e = cc
same_ask_is (Length a) (Directory d) e = cc
same_ask_is (Rec a j) (Has b) e = cc
same_ask_is (Rec a j) (Length b) e = cc
same_ask_is (Rec a j) (Rec b k) e =
    let h = both_true (eq_by_cmp (slice_cmp nat_cmp) a b) (j == k) e in
    ap (λ x. Rec x j) (key_of same_key a b h.0) ∙ ap (λ n. Rec b n) (eqb-true j k h.1)
same_ask_is (Rec a j) (Directory d) e = cc
same_ask_is (Directory d) (Has b) e = cc
same_ask_is (Directory d) (Length b) e = cc
same_ask_is (Directory d) (Rec b k) e = cc
same_ask_is (Directory c) (Directory d) e = ap Directory (eqb-true c d e)

pub noted_still : (s : FileSteps) (ask : Ask) (step m : ℕ) → step_of_ask s ask ≡ Some m → NotedAs s s ask step
noted_still s ask step m there = λ q. noted_already s ask step m there q (is_same_ask q ask) (same_ask_is q ask)

-- The steps after an insertion at a key that has no step.
module _ {K : Type 0} {R : K → K → Ordering} where
  entered : IsTotalOrder R → IsAntisymmetric R → (m : FinMap R ℕ) (k : K) (step : ℕ) → get m k ≡ None → (q : K) → get (insert m k step) q ≡ or_else (get m q) (step_if (eq_by_cmp R q k) step)
  entered o same m k step none q = get-insert o m k step q ∙ marked (eq_by_cmp R q k) (get m q) step (λ e. ap (get m) (key_of same q k e) ∙ none)

pub noted_has : (s : FileSteps) (key : Key) (step : ℕ) → get s.has key ≡ None → NotedAs s (record s { has = insert s.has key step }) (Has key) step
noted_has s key step none (Has a) = entered nat_list_cmp_total same_key s.has key step none a
noted_has s key step none (Length a) = unmarked (get s.lengths a) step
noted_has s key step none (Rec a k) = unmarked (step_of_record s.records a k) step
noted_has s key step none (Directory d) = unmarked (get_or s.directories d None) step

pub noted_length : (s : FileSteps) (key : Key) (step : ℕ) → get s.lengths key ≡ None → NotedAs s (record s { lengths = insert s.lengths key step }) (Length key) step
noted_length s key step none (Has a) = unmarked (get s.has a) step
noted_length s key step none (Length a) = entered nat_list_cmp_total same_key s.lengths key step none a
noted_length s key step none (Rec a k) = unmarked (step_of_record s.records a k) step
noted_length s key step none (Directory d) = unmarked (get_or s.directories d None) step

-- A record that is noted among the records.
pub noted_record : (s : FileSteps) (records : RecordNotes) (key : Key) (index step : ℕ) → NotesRecord s.records key index step records → NotedAs s (record s { records = records }) (Rec key index) step
noted_record s records key index step notes (Has a) = unmarked (get s.has a) step
noted_record s records key index step notes (Length a) = unmarked (get s.lengths a) step
noted_record s records key index step notes (Rec a k) = notes a k
noted_record s records key index step notes (Directory d) = unmarked (get_or s.directories d None) step

-- The same records.
pub same_records : (s : FileSteps) (records : RecordNotes) → SameRecordSteps s.records records → SameSteps s (record s { records = records })
same_records s records same (Has a) = refl
same_records s records same (Length a) = refl
same_records s records same (Rec a k) = same a k
same_records s records same (Directory d) = refl

-- A note for each kind of question.
module _ (s : FileSteps) (ask : Ask) (key : Key) (step : ℕ) (none : step_of_ask s ask ≡ None) where
  pub entered_has : (m : FinMap (slice_cmp nat_cmp) ℕ) → ask ≡ Has key → m ≡ insert s.has key step → NotedAs s (record s { has = m }) ask step
  entered_has m is e =
      let one = noted_has s key step (sym (ap (step_of_ask s) is) ∙ none) in
      subst (λ a. NotedAs s (record s { has = m }) a step) (sym is) (subst (λ x. NotedAs s (record s { has = x }) (Has key) step) (sym e) one)

  pub entered_length : (m : FinMap (slice_cmp nat_cmp) ℕ) → ask ≡ Length key → m ≡ insert s.lengths key step → NotedAs s (record s { lengths = m }) ask step
  entered_length m is e =
      let one = noted_length s key step (sym (ap (step_of_ask s) is) ∙ none) in
      subst (λ a. NotedAs s (record s { lengths = m }) a step) (sym is) (subst (λ x. NotedAs s (record s { lengths = x }) (Length key) step) (sym e) one)

  pub entered_record : (k : ℕ) (records : RecordNotes) → ask ≡ Rec key k → NotesRecord s.records key k step records → NotedAs s (record s { records = records }) ask step
  entered_record k records is notes = subst (λ a. NotedAs s (record s { records = records }) a step) (sym is) (noted_record s records key k step notes)

-- ---- erasures

read_twice : (es : List (Option ℕ)) (i : ℕ) (d : Option ℕ) → get_or es i (get_or es i d) ≡ get_or es i d
read_twice [] i d = refl
read_twice (x ∷ xs) zero d = refl
read_twice (x ∷ xs) (suc i) d = read_twice xs i d

-- One more step.
pub erased_more : (ds es : List (Option ℕ)) (from i : ℕ) (x : Option ℕ) → i < length ds → es ≡ map (step_below from) (take i ds) ++ drop i ds → x ≡ step_below from (get_or es i None)
    → slice_set es i x ≡ map (step_below from) (take (i + 1) ds) ++ drop (i + 1) ds
erased_more ds es from i x low so is = ap (slice_set es i) is ∙ map_over_more (step_below from) ds es i (get_or es i None) low so (sym (read_twice es i None))

-- ---- no step

pub no_steps : (s : FileSteps) → s.has ≡ empty → s.lengths ≡ empty → s.records ≡ record { files = []; latest = 0 } → ((d : ℕ) → get_or s.directories d None ≡ None) → (q : Ask) → step_of_ask s q ≡ None
no_steps s a b c d (Has key) = ap (λ m. get m key) a ∙ get-empty (slice_cmp nat_cmp) key
no_steps s a b c d (Length key) = ap (λ m. get m key) b ∙ get-empty (slice_cmp nat_cmp) key
no_steps s a b c d (Rec key k) = ap (λ m. step_of_record m key k) c
no_steps s a b c d (Directory drive) = d drive

abbrev pub nothing : Option ℕ
nothing = None

pub all_none : (n d : ℕ) → get_or (replicate n nothing) d nothing ≡ nothing
all_none n d = elim (cases_lt d n) [
  | inl low ↦ get_or-replicate n d nothing nothing low
  | inr high ↦ get_or_past (replicate n nothing) d nothing (rw length-replicate high)
]

pub noted_if_there : (s : FileSteps) (ask : Ask) (step : ℕ) → is_some (step_of_ask s ask) ≡ true → NotedAs s s ask step
noted_if_there s ask step there = elim (step_of_ask s ask) as (λ o. step_of_ask s ask ≡ o → is_some o ≡ true → NotedAs s s ask step) [
  | None ↦ λ e t. absurd (cc)
  | Some m ↦ λ e t. noted_still s ask step m e
] refl there
