-- New looks are removed one by one.
use Rattle.std.proofs.Common.{◌≡◌, ℕ, zero, suc, ◌+◌, ◌-◌, ◌<◌, ◌≤◌, Bool, true, false, ◌||◌, ◌&&◌, ◌==◌, not, cond, List, [], ◌∷◌, length, drop, Option, Some, None, is_some, refl, sym, ap, ◌∙◌, arith, inl, inr}
use Rattle.std.specs.Prelude.{slice_index}
use Rattle.std.proofs.lemmas.Bool.Decides.{eqb_tells, nat_tests}
use Rattle.std.specs.Ordering.{eq_by_cmp}
use Rattle.std.specs.Cmp.Lexicographic.{nat_list_cmp_total}
use Rattle.std.specs.Cmp.{IsTotalOrder, eq_by_cmp_equiv, nat_cmp_total, unsigned_tied}
use Rattle.std.specs.declared.cmp.Ordering.{Ordering}
use Rattle.std.specs.FinMap.{FinMap, IsAntisymmetric, get, len, insert, remove, contains_key, get-insert, get-remove, len-insert, same_map, nat_cmp-IsAntisymmetric}
use Rattle.hostfiles.proofs.Views.{places_total, same_key, same_place, insert_same, key_of}
use Rattle.hostfiles.specs.FileLooks.{is_looked, is_same_ask, without_ask}
use Rattle.hostfiles.specs.declared.looks.FileLooks.{FileLooks}
use Rattle.hostfiles.specs.declared.looks.Ask.{Ask}
use Rattle.hostfiles.specs.declared.looks.Ask.TheVariants.{Has, Length, Rec, Directory}
use Rattle.console_calls.specs.declared.script_looks.ScriptLooks.{ScriptLooks}
use Rattle.console_calls.specs.ScriptLooks.{is_within, LeavesOut}
use Rattle.first_looks.specs.declared.question.Question.{Question}
use Rattle.first_looks.specs.declared.question.Question.TheVariants.{Cell, Script, Host as OfHost}
use Rattle.first_looks.specs.Questions.{same_question}
use Rattle.i8080.specs.Memory.{is_among}
use Rattle.machine.specs.StateView.{AllLooks}
use Rattle.machine.specs.Machine.{is_looked_at, looks_from}
use Rattle.machine.specs.TakesQuestion.{TakesQuestion, ask_count}
use Rattle.machine.proofs.HostLemmas.{same_place_tie}

-- ---- one key is taken out

twice : {X : Type 0} (b : Bool) (x y z : X) → cond b x (cond b y z) ≡ cond b x z
twice true x y z = refl
twice false x y z = refl

module _ {K X : Type 0} {R : K → K → Ordering} (o : IsTotalOrder R) (same : IsAntisymmetric R) where
  put_back : (m : FinMap R X) (k : K) (v : X) → get m k ≡ Some v → insert (remove m k) k v ≡ m
  put_back m k v at =
      same_map o same _ _ (λ q. get-insert o (remove m k) k v q ∙ ap (cond (eq_by_cmp R q k) (Some v)) (get-remove o m k q) ∙ twice (eq_by_cmp R q k) (Some v) None (get m q) ∙ sym (get-insert o m k v q))
      ∙ insert_same o same m k v at

  gone : (m : FinMap R X) (k : K) → contains_key (remove m k) k ≡ false
  gone m k = ap is_some (get-remove o m k k ∙ ap (λ b. cond b None (get m k)) ((eq_by_cmp_equiv o).refl k))

  one_key_less : (m : FinMap R X) (k : K) (v : X) → get m k ≡ Some v → len (remove m k) < len m
  one_key_less m k v at =
      let count : len m ≡ len (remove m k) + 1 = ap len (sym (put_back m k v at)) ∙ len-insert o (remove m k) k v ∙ ap (λ b. cond b (len (remove m k)) (len (remove m k) + 1)) (gone m k) in
      omega arith

  fewer_keys : (m : FinMap R X) (k : K) (v : Option X) → get m k ≡ v → is_some v ≡ true → len (remove m k) < len m
  fewer_keys m k None at there = absurd (cc)
  fewer_keys m k (Some v) at there = one_key_less m k v at

  key_split : (m : FinMap R X) (k x : K) → contains_key m k ≡ true → contains_key m x ≡ (eq_by_cmp R x k || contains_key (remove m k) x)
  key_split m k x there = by (eq_by_cmp R x k) refl where
    by : (b : Bool) → eq_by_cmp R x k ≡ b → contains_key m x ≡ (b || contains_key (remove m k) x)
    by true e = ap (contains_key m) (key_of same x k e) ∙ there
    by false e = sym (ap is_some (get-remove o m k x ∙ ap (λ b. cond b None (get m x)) e))

-- ---- one question is taken out

fewer : (ask : Ask) (l : FileLooks) → is_looked l ask ≡ true → ask_count (without_ask ask l) < ask_count l
fewer (Has key) l h = let less = fewer_keys nat_list_cmp_total same_key l.has key _ refl h in omega (arith, less)
fewer (Length key) l h = let less = fewer_keys nat_list_cmp_total same_key l.lengths key _ refl h in omega (arith, less)
fewer (Rec key k) l h = let less = fewer_keys places_total same_place l.records (key, k) _ refl h in omega (arith, less)
fewer (Directory d) l h = let less = fewer_keys nat_cmp_total nat_cmp-IsAntisymmetric l.directories d _ refl h in omega (arith, less)

split : (ask : Ask) (l : FileLooks) → is_looked l ask ≡ true → (a : Ask) → is_looked l a ≡ (is_same_ask a ask || is_looked (without_ask ask l) a)
split (Has key) l h (Has x) = key_split nat_list_cmp_total same_key l.has key x h
split (Has key) l h (Length x) = refl
split (Has key) l h (Rec x j) = refl
split (Has key) l h (Directory d) = refl
split (Length key) l h (Has x) = refl
split (Length key) l h (Length x) = key_split nat_list_cmp_total same_key l.lengths key x h
split (Length key) l h (Rec x j) = refl
split (Length key) l h (Directory d) = refl
split (Rec key k) l h (Has x) = refl
split (Rec key k) l h (Length x) = refl
split (Rec key k) l h (Rec x j) = key_split places_total same_place l.records (key, k) (x, j) h ∙ ap (λ b. b || is_looked (without_ask (Rec key k) l) (Rec x j)) (same_place_tie x key j k)
split (Rec key k) l h (Directory d) = refl
split (Directory drive) l h (Has x) = refl
split (Directory drive) l h (Length x) = refl
split (Directory drive) l h (Rec x j) = refl
split (Directory drive) l h (Directory d) = key_split nat_cmp_total nat_cmp-IsAntisymmetric l.directories drive d h ∙ ap (λ b. b || is_looked (without_ask (Directory drive) l) (Directory d)) (unsigned_tied d drive)

-- ---- one script offset is taken out

fewer_offsets : (k : ℕ) (old new : ScriptLooks) → is_within old k ≡ true → LeavesOut old k new → new.to - new.from < old.to - old.from
fewer_offsets k old new one gone =
    let first = gone new.from in
    let last = gone (new.to - 1) in
    let here = gone k in
    grind (arith, nat_tests)

split_offsets : (k : ℕ) (old new : ScriptLooks) → is_within old k ≡ true → LeavesOut old k new → (j : ℕ) → is_within old j ≡ ((j == k) || is_within new j)
split_offsets k old new one gone j = elim (eqb_tells j k) [
  | inl here ↦ rw here.0 (ap (is_within old) here.1 ∙ one)
  | inr apart ↦ let b : (j == k) ≡ false = apart.0 in rw b (sym (gone j ∙ ap (λ c. is_within old j && not c) b ∙ all (is_within old j)))
] where
  all : (b : Bool) → (b && true) ≡ b
  all true = refl
  all false = refl

-- ---- one look is taken out

drop_one : (n : ℕ) (cells : List ℕ) → n < length cells → drop n cells ≡ slice_index cells n ∷ drop (suc n) cells
drop_one n [] h = absurd (omega arith)
drop_one zero (x ∷ xs) h = refl
drop_one (suc n) (x ∷ xs) h = drop_one n xs (omega arith)

drop_none : (n : ℕ) (cells : List ℕ) → length cells ≤ n → drop n cells ≡ []
drop_none zero [] h = refl
drop_none (suc n) [] h = refl
drop_none zero (x ∷ xs) h = absurd (omega arith)
drop_none (suc n) (x ∷ xs) h = drop_none n xs (omega arith)

pub takes_cell : (n : ℕ) (old new : AllLooks) (cell : ℕ) → n < length old.cells → cell ≡ slice_index old.cells n → new ≡ old → TakesQuestion n old (Some (Cell cell)) (n + 1) new
takes_cell n old new cell more is same = rw same (record {
  cells = refl;
  within = omega arith;
  looks = looks;
  none = λ e. absurd (cc);
  fewer = λ _. omega arith;
}) where
  looks : (q : Question) → is_looked_at (looks_from n old) q ≡ (same_question q (Cell cell) || is_looked_at (looks_from (n + 1) old) q)
  looks (Cell a) = ap (is_among a) (drop_one n old.cells more)
      ∙ ap (λ k. (a == slice_index old.cells n) || is_among a (drop k old.cells)) (let e : suc n ≡ n + 1 = omega arith in e)
      ∙ ap (λ c. (a == c) || is_among a (drop (n + 1) old.cells)) (sym is)
  looks (Script k) = refl
  looks (OfHost a) = refl

module _ (n : ℕ) (old new : AllLooks) (past : length old.cells ≤ n) (within : n ≤ length old.cells) (cells : new.cells ≡ old.cells) where
  same_cells : (a : ℕ) → is_among a (drop n old.cells) ≡ is_among a (drop n new.cells)
  same_cells a = ap (λ c. is_among a (drop n c)) (sym cells)

  pub takes_offset : (k : ℕ) → new.files ≡ old.files → is_within old.offsets k ≡ true → LeavesOut old.offsets k new.offsets → TakesQuestion n old (Some (Script k)) n new
  takes_offset k files one gone = record {
    cells = cells;
    within = within;
    looks = looks;
    none = λ e. absurd (cc);
    fewer = λ _. let less = fewer_offsets k old.offsets new.offsets one gone in let count : length new.cells ≡ length old.cells = ap length cells in let asks : ask_count new.files ≡ ask_count old.files = ap ask_count files in omega (arith, less, count, asks);
  } where
    looks : (q : Question) → is_looked_at (looks_from n old) q ≡ (same_question q (Script k) || is_looked_at (looks_from n new) q)
    looks (Cell a) = same_cells a
    looks (Script j) = split_offsets k old.offsets new.offsets one gone j
    looks (OfHost a) = ap (λ l. is_looked l a) (sym files)

  pub takes_ask : (ask : Ask) → new.offsets ≡ old.offsets → is_looked old.files ask ≡ true → new.files ≡ without_ask ask old.files → TakesQuestion n old (Some (OfHost ask)) n new
  takes_ask ask offsets one gone = record {
    cells = cells;
    within = within;
    looks = looks;
    none = λ e. absurd (cc);
    fewer = λ _. let less = fewer ask old.files one in let count : length new.cells ≡ length old.cells = ap length cells in let asks : ask_count new.files ≡ ask_count (without_ask ask old.files) = ap ask_count gone in let to : new.offsets.to ≡ old.offsets.to = ap (λ (p : ScriptLooks). p.to) offsets in let from : new.offsets.from ≡ old.offsets.from = ap (λ (p : ScriptLooks). p.from) offsets in omega (arith, less, count, asks, to, from);
  } where
    looks : (q : Question) → is_looked_at (looks_from n old) q ≡ (same_question q (OfHost ask) || is_looked_at (looks_from n new) q)
    looks (Cell a) = same_cells a
    looks (Script j) = ap (λ p. is_within p j) (sym offsets)
    looks (OfHost a) = split ask old.files one a ∙ ap (λ l. is_same_ask a ask || is_looked l a) (sym gone)

  pub takes_none : new.offsets ≡ old.offsets → new.files ≡ old.files → ((j : ℕ) → is_within old.offsets j ≡ false) → ((a : Ask) → is_looked old.files a ≡ false) → TakesQuestion n old None n new
  takes_none same files none asks = record {
    cells = cells;
    within = within;
    looks = looks;
    none = λ _. left;
    fewer = λ e. absurd (cc);
  } where
    looks : (q : Question) → is_looked_at (looks_from n old) q ≡ is_looked_at (looks_from n new) q
    looks (Cell a) = same_cells a
    looks (Script j) = ap (λ p. is_within p j) (sym same)
    looks (OfHost a) = ap (λ l. is_looked l a) (sym files)

    left : (q : Question) → is_looked_at (looks_from n new) q ≡ false
    left (Cell a) = sym (same_cells a) ∙ ap (is_among a) (drop_none n old.cells past)
    left (Script j) = sym (looks (Script j)) ∙ none j
    left (OfHost a) = sym (looks (OfHost a)) ∙ asks a
