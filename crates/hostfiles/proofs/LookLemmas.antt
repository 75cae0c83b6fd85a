-- Looks are never removed.
use Rattle.std.proofs.Common.{◌≡◌, ℕ, Bool, true, false, refl, is_some, ◌==◌, ◌&&◌, arith, Option, Some, None, Result, Ok, Err, sym, ap, subst, ◌∙◌}
use Rattle.std.specs.Result.{OnErr}
use Rattle.std.specs.Cmp.{nat_cmp_total}
use Rattle.std.specs.Cmp.Lexicographic.{nat_list_cmp_total}
use Rattle.std.specs.FinMap.{FinMap, get, insert, len, empty_of_len, get-empty, nat_cmp-IsAntisymmetric}
use Rattle.std.specs.declared.cmp.Ordering.{Ordering}
use Rattle.keymaps.proofs.Views.{get_here, same_key, same_place, places_total, there_still}
use Rattle.std.proofs.lemmas.Bool.{and_parts}
use Rattle.hostfiles.specs.Hosts.{Key}
use Rattle.keymaps.specs.Walks.{IsAbsent}
use Rattle.hostfiles.specs.FileLooks.{HasNewAsk, KeepsAsks, is_looked, asks_nothing, look_has_by, look_length_by, look_record_by, look_directory}
use Rattle.hostfiles.specs.declared.journal.Base.{Base}
use Rattle.hostfiles.specs.declared.journal.Base.TheVariants.{Same, Gone, New, Moved}
use Rattle.hostfiles.specs.declared.journal.Growth.{Growth}
use Rattle.hostfiles.specs.declared.looks.FileLooks.{FileLooks}
use Rattle.hostfiles.specs.declared.looks.Ask.{Ask}
use Rattle.hostfiles.specs.declared.looks.Ask.TheVariants.{Has, Length, Rec, Directory}

pub extends_same : (l m : FileLooks) → m ≡ l → KeepsAsks l m
extends_same l m e = record { kept = λ q h. ap (λ x. is_looked x q) e ∙ h }

pub extends_trans : (l m n : FileLooks) → KeepsAsks l m → KeepsAsks m n → KeepsAsks l n
extends_trans l m n a b = record { kept = λ q h. b.kept q (a.kept q h) }

abbrev pub Keeps : FileLooks → FileLooks → Type 0
Keeps l m = (q : Ask) → is_looked l q ≡ true → is_looked m q ≡ true

with_has : (l : FileLooks) (key : Key) → Keeps l (record l { has = insert l.has key tt })
with_has l key (Has k) h = there_still nat_list_cmp_total same_key l.has key tt k h
with_has l key (Length k) h = h
with_has l key (Rec k n) h = h
with_has l key (Directory d) h = h

with_length : (l : FileLooks) (key : Key) → Keeps l (record l { lengths = insert l.lengths key tt })
with_length l key (Has k) h = h
with_length l key (Length k) h = there_still nat_list_cmp_total same_key l.lengths key tt k h
with_length l key (Rec k n) h = h
with_length l key (Directory d) h = h

with_record : (l : FileLooks) (key : Key) (place : ℕ) → Keeps l (record l { records = insert l.records (key, place) tt })
with_record l key place (Has k) h = h
with_record l key place (Length k) h = h
with_record l key place (Rec k n) h = there_still places_total same_place l.records (key, place) tt (k, n) h
with_record l key place (Directory d) h = h

by_has : (b : Base) (key : Key) (l : FileLooks) → Keeps l (look_has_by b key l)
by_has Same key l = with_has l key
by_has Gone key l = λ q h. h
by_has New key l = λ q h. h
by_has (Moved old) key l = λ q h. h

by_length : (b : Base) (g : Option Growth) (key : Key) (l : FileLooks) → Keeps l (look_length_by b g key l)
by_length b (Some g) key l = λ q h. h
by_length Same None key l = with_length l key
by_length Gone None key l = λ q h. h
by_length New None key l = λ q h. h
by_length (Moved old) None key l = with_length l old

by_record : (b : Base) (key : Key) (k : ℕ) (l : FileLooks) → Keeps l (look_record_by b key k l)
by_record Same key k l = with_record l key k
by_record Gone key k l = λ q h. h
by_record New key k l = λ q h. h
by_record (Moved old) key k l = with_record l old k

pub extends_by_has : (b : Base) (key : Key) (l m : FileLooks) → m ≡ look_has_by b key l → KeepsAsks l m
extends_by_has b key l m e = record { kept = subst (Keeps l) (sym e) (by_has b key l) }

pub extends_by_length : (b : Base) (g : Option Growth) (key : Key) (l m : FileLooks) → m ≡ look_length_by b g key l → KeepsAsks l m
extends_by_length b g key l m e = record { kept = subst (Keeps l) (sym e) (by_length b g key l) }

pub extends_by_record : (b : Base) (key : Key) (k : ℕ) (l m : FileLooks) → m ≡ look_record_by b key k l → KeepsAsks l m
extends_by_record b key k l m e = record { kept = subst (Keeps l) (sym e) (by_record b key k l) }

pub nothing_looked : (l : FileLooks) → ((x : Key) → get l.has x ≡ None) → ((x : Key) → get l.lengths x ≡ None) → ((p : Key × ℕ) → get l.records p ≡ None) → ((d : ℕ) → get l.directories d ≡ None)
    → (q : Ask) → is_looked l q ≡ false
nothing_looked l a b c d (Has k) = ap is_some (a k)
nothing_looked l a b c d (Length k) = ap is_some (b k)
nothing_looked l a b c d (Rec k n) = ap is_some (c (k, n))
nothing_looked l a b c d (Directory n) = ap is_some (d n)

no_key : {K X : Type 0} {R : K → K → Ordering} (m : FinMap R X) → (len m == 0) ≡ true → (k : K) → get m k ≡ None
no_key m e k = ap (λ x. get x k) (empty_of_len m (number_of e)) ∙ get-empty _ k where
  number_of : (len m == 0) ≡ true → len m ≡ 0
  number_of h = grind arith

pub nothing_asked : (l : FileLooks) → asks_nothing l ≡ true → (q : Ask) → is_looked l q ≡ false
nothing_asked l e =
    let drives = and_parts (len l.has == 0 && len l.lengths == 0 && len l.records == 0) _ e in
    let records = and_parts (len l.has == 0 && len l.lengths == 0) _ drives.0 in
    let keys = and_parts (len l.has == 0) _ records.0 in
    nothing_looked l (no_key l.has keys.0) (no_key l.lengths keys.1) (no_key l.records records.1) (no_key l.directories drives.1)

pub same_looks : (l m : FileLooks) → m.has ≡ l.has → m.lengths ≡ l.lengths → m.records ≡ l.records → m.directories ≡ l.directories → m ≡ l
same_looks l m a b c d = ap (λ x. record m { has = x }) a ∙ ap (λ x. record m { has = l.has; lengths = x }) b ∙ ap (λ x. record m { has = l.has; lengths = l.lengths; records = x }) c ∙ ap (λ x. record l { directories = x }) d

pub with_directory : (l : FileLooks) (drive : ℕ) → Keeps l (look_directory drive l)
with_directory l drive (Has k) h = h
with_directory l drive (Length k) h = h
with_directory l drive (Rec k n) h = h
with_directory l drive (Directory d) h = there_still nat_cmp_total nat_cmp-IsAntisymmetric l.directories drive tt d h

pub extends_by_directory : (drive : ℕ) (l m : FileLooks) → m ≡ look_directory drive l → KeepsAsks l m
extends_by_directory drive l m e = record { kept = subst (Keeps l) (sym e) (with_directory l drive) }

-- The question was marked, or needed no look.
pub ruleset noted_has = (extends_by_has, extends_same)

pub ruleset noted_length = (extends_by_length, extends_same)

pub ruleset noted_record = (extends_by_record, extends_same)

-- ---- a question that was not asked before

pub new_has : {A E : Type 0} (r : Result A E) (key : Key) (l : FileLooks) → OnErr r (IsAbsent l.has key)
    → OnErr r (HasNewAsk l (record l { has = insert l.has key tt }))
new_has (Ok x) key l h = tt
new_has (Err e) key l h = record { ask = Has key; asked = ap is_some (get_here nat_list_cmp_total same_key l.has key tt); new = ap is_some h }

pub new_length : {A E : Type 0} (r : Result A E) (key : Key) (l : FileLooks) → OnErr r (IsAbsent l.lengths key)
    → OnErr r (HasNewAsk l (record l { lengths = insert l.lengths key tt }))
new_length (Ok x) key l h = tt
new_length (Err e) key l h = record { ask = Length key; asked = ap is_some (get_here nat_list_cmp_total same_key l.lengths key tt); new = ap is_some h }

pub new_record : {A E : Type 0} (r : Result A E) (key : Key) (k : ℕ) (l : FileLooks) → OnErr r (IsAbsent l.records (key, k))
    → OnErr r (HasNewAsk l (record l { records = insert l.records (key, k) tt }))
new_record (Ok x) key k l h = tt
new_record (Err e) key k l h = record { ask = Rec key k; asked = ap is_some (get_here places_total same_place l.records (key, k) tt); new = ap is_some h }

-- It stays new if more questions follow.
pub new_within : (l m n : FileLooks) → HasNewAsk l m → KeepsAsks m n → HasNewAsk l n
new_within l m n h more = record { ask = h.ask; asked = more.kept h.ask h.asked; new = h.new }

-- It was new before, too.
pub new_before : (l m n : FileLooks) → HasNewAsk m n → KeepsAsks l m → HasNewAsk l n
new_before l m n h more = record { ask = h.ask; asked = h.asked; new = unasked (is_looked l h.ask) (λ e. more.kept h.ask e) } where
  unasked : (b : Bool) → (b ≡ true → is_looked m h.ask ≡ true) → b ≡ false
  unasked true up = let no : false ≡ true = sym h.new ∙ up refl in cc
  unasked false up = refl
