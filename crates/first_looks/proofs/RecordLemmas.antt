-- The first steps of the records of files, when one is noted and when they are erased.
use Rattle.std.proofs.Common.{◌≡◌, ℕ, ◌<◌, ◌≤◌, Bool, true, false, cond, List, [], ◌∷◌, Option, Some, None, Result, Ok, Err, OnOk, OnErr, refl, sym, ap, subst, ◌∙◌, arith}
use Rattle.std.specs.Prelude.{◌&&◌, ◌==◌}
use Rattle.std.specs.Ordering.{nat_cmp, eq_by_cmp}
use Rattle.std.specs.Cmp.{eq_by_cmp_equiv}
use Rattle.std.specs.Cmp.Lexicographic.{slice_cmp, nat_list_cmp_total}
use Rattle.std.proofs.lemmas.Bool.Decides.{nat_tests}
use Rattle.std.specs.Map.{lookup}
use Rattle.std.specs.Map.Calls.{RetainsPairs}
use Rattle.std.specs.BTreeMap.{is_at}
use Rattle.keymaps.proofs.Views.{same_key, key_of}
use Rattle.hostfiles.specs.Hosts.{Key}
use Rattle.first_looks.specs.Noting.{or_else, step_if, step_below}
use Rattle.first_looks.specs.FirstSteps.{Steps, step_in}
use Rattle.first_looks.proofs.OrderLemmas.{kept_below}
use Rattle.first_looks.specs.RecordSteps.{AreWithin, IsWithin, steps_of, step_within}

no_mark : (r : Option ℕ) (n : ℕ) → r ≡ or_else r (step_if false n)
no_mark None n = refl
no_mark (Some m) n = refl

-- ---- a file with other steps

module _ (old new : List (Key × Steps)) (key : Key) (steps : Steps) (put : (q : Key) → steps_of new q ≡ cond (is_at (slice_cmp nat_cmp key) q) (Some steps) (steps_of old q)) where
  -- What is true of the file of the key, and of the unchanged other files, is true of each file.
  each_file : (P : Key → Bool → Option Steps → Type 0) → P key true (Some steps) → ((q : Key) → P q false (steps_of old q)) → (q : Key) → P q (eq_by_cmp (slice_cmp nat_cmp) q key) (steps_of new q)
  each_file P here others q =
      elim (is_at (slice_cmp nat_cmp key) q) as (λ b. is_at (slice_cmp nat_cmp key) q ≡ b → P q (eq_by_cmp (slice_cmp nat_cmp) q key) (steps_of new q)) [
        | true ↦ λ e.
            let value : steps_of new q ≡ Some steps = put q ∙ ap (λ b. cond b (Some steps) (steps_of old q)) e in
            let test : eq_by_cmp (slice_cmp nat_cmp) q key ≡ true = (eq_by_cmp_equiv nat_list_cmp_total).symm q key ∙ e in
            rw (value, test) (subst (λ x. P x true (Some steps)) (key_of same_key key q e) here)
        | false ↦ λ e.
            let value : steps_of new q ≡ steps_of old q = put q ∙ ap (λ b. cond b (Some steps) (steps_of old q)) e in
            let test : eq_by_cmp (slice_cmp nat_cmp) q key ≡ false = (eq_by_cmp_equiv nat_list_cmp_total).symm q key ∙ e in
            rw (value, test) (others q)
      ] refl

  pub noted_in : (number step : ℕ) → ((k : ℕ) → step_in steps.entries k ≡ or_else (step_within (steps_of old key) k) (step_if (k == number) step))
      → (q : Key) (k : ℕ) → step_within (steps_of new q) k ≡ or_else (step_within (steps_of old q) k) (step_if (eq_by_cmp (slice_cmp nat_cmp) q key && (k == number)) step)
  noted_in number step h = each_file
      (λ q b s. (k : ℕ) → step_within s k ≡ or_else (step_within (steps_of old q) k) (step_if (b && (k == number)) step))
      h (λ q k. no_mark (step_within (steps_of old q) k) step)

  pub same_in : ((k : ℕ) → step_in steps.entries k ≡ step_within (steps_of old key) k) → (q : Key) (k : ℕ) → step_within (steps_of new q) k ≡ step_within (steps_of old q) k
  same_in h = each_file (λ q b s. (k : ℕ) → step_within s k ≡ step_within (steps_of old q) k) h (λ q k. refl)

  pub within_in : (n : ℕ) → IsWithin n steps → AreWithin n old → AreWithin n new
  within_in n h all = each_file (λ q b s. (x : Steps) → s ≡ Some x → IsWithin n x) (λ x e. let same : steps ≡ x = cc in subst (IsWithin n) same h) all

pub within_more : (m n : ℕ) (files : List (Key × Steps)) → m ≤ n → AreWithin m files → AreWithin n files
within_more m n files h all = λ q s e. let low = (all q s e).0 in (omega arith, λ k x at. let lower = (all q s e).1 k x at in omega arith)

-- The steps of a file after a step is noted, if there is one or not.
pub noted_within : {E : Type 0} (r : Result (Unit {0}) E) (old new : Steps) (n number step : ℕ) → ((k x : ℕ) → step_in old.entries k ≡ Some x → x ≤ n) → step ≤ n → new.latest ≤ n
    → OnOk r ((k : ℕ) → step_in new.entries k ≡ or_else (step_in old.entries k) (step_if (k == number) step)) → OnErr r ((k : ℕ) → step_in new.entries k ≡ step_in old.entries k)
    → IsWithin n new
noted_within {E = E} r old new n number step before here latest ok err = (latest, each r ok err) where
  either : (o : Option ℕ) (b : Bool) (x : ℕ) → ((y : ℕ) → o ≡ Some y → y ≤ n) → Some x ≡ or_else o (step_if b step) → x ≤ n
  either None true x h e = let same : step ≡ x = cc in subst (λ y. y ≤ n) same here
  either None false x h e = cc
  either (Some y) b x h e = let same : y ≡ x = cc in subst (λ z. z ≤ n) same (h y refl)

  each : (r : Result (Unit {0}) E) → OnOk r ((k : ℕ) → step_in new.entries k ≡ or_else (step_in old.entries k) (step_if (k == number) step))
      → OnErr r ((k : ℕ) → step_in new.entries k ≡ step_in old.entries k) → (k x : ℕ) → step_in new.entries k ≡ Some x → x ≤ n
  each (Ok u) ok err k x at = either (step_in old.entries k) (k == number) x (before k) (sym at ∙ ok k)
  each (Err e) ok err k x at = before k x (sym (err k) ∙ at)

-- ---- erasures

-- The steps of one file after those from `from` on are erased.
abbrev pub ErasesIn : ℕ → Steps → Steps → Type 0
ErasesIn from v w = ((k : ℕ) → step_in w.entries k ≡ step_below from (step_in v.entries k)) × ((w.latest ≤ v.latest) × (w.latest ≤ from))

abbrev Erases : ℕ → Option Steps → Option Steps → Type 0
Erases from None o = o ≡ None
Erases from (Some v) o = (w : Steps) × (o ≡ Some w) × ErasesIn from v w

module _ {F : Type 0} (T : F → Key → Steps → Bool → Steps → F → Type 0) (from : ℕ) (f : F)
    (one : (k : Key) (v : Steps) (b : Bool) (w : Steps) (f' : F) → T f k v b w f' → (b ≡ true) × ErasesIn from v w × (f' ≡ f)) where
  erases : (old new : List (Key × Steps)) → RetainsPairs T f old new → (test : Key → Bool) → Erases from (lookup test old) (lookup test new)
  erases [] new r test = ap (lookup test) r
  erases (e ∷ es) new (b, w, f', rest, t, r, is) test =
      let h = one e.0 e.1 b w f' t in
      let kept : new ≡ (e.0, w) ∷ rest = is ∙ ap (λ x. cond x ((e.0, w) ∷ rest) rest) h.0 in
      let more = erases es rest (subst (λ g. RetainsPairs T g es rest) h.2 r) test in
      rw kept (elim (test e.0) as (λ x. Erases from (cond x (Some e.1) (lookup test es)) (cond x (Some w) (lookup test rest))) [
        | true ↦ (w, refl, h.1)
        | false ↦ more
      ])

  pub erased_in : (old new : List (Key × Steps)) → RetainsPairs T f old new → (q : Key) (k : ℕ) → step_within (steps_of new q) k ≡ step_below from (step_within (steps_of old q) k)
  erased_in old new r q k =
      elim (steps_of old q) as (λ o. Erases from o (steps_of new q) → step_within (steps_of new q) k ≡ step_below from (step_within o k)) [
        | None ↦ λ h. ap (λ s. step_within s k) h
        | Some v ↦ λ h. ap (λ s. step_within s k) h.1 ∙ h.2.0 k
      ] (erases old new r (is_at (slice_cmp nat_cmp q)))

  pub within_erased : (old new : List (Key × Steps)) → RetainsPairs T f old new → AreWithin from new
  within_erased old new r q x e =
      elim (steps_of old q) as (λ o. Erases from o (steps_of new q) → IsWithin from x) [
        | None ↦ λ h. absurd (cc)
        | Some v ↦ λ h.
            let same : h.0 ≡ x = cc in
            subst (IsWithin from) same (h.2.1.1, λ k y at. let low = (kept_below from (step_in v.entries k) y (sym (h.2.0 k) ∙ at)).1 in omega arith)
      ] (erases old new r (is_at (slice_cmp nat_cmp q)))

-- If no step is `from` or later, an erasure changes nothing.
pub none_erased : (from n : ℕ) (files : List (Key × Steps)) → n < from → AreWithin n files → (q : Key) (k : ℕ) → step_within (steps_of files q) k ≡ step_below from (step_within (steps_of files q) k)
none_erased from n files less all q k = by_file (steps_of files q) refl where
  by_step : (o : Option ℕ) → ((x : ℕ) → o ≡ Some x → x ≤ n) → o ≡ step_below from o
  by_step None h = refl
  by_step (Some x) h = let low = h x refl in grind (arith, nat_tests)

  by_file : (o : Option Steps) → steps_of files q ≡ o → step_within o k ≡ step_below from (step_within o k)
  by_file None e = refl
  by_file (Some steps) e = by_step (step_in steps.entries k) ((all q steps e).1 k)
