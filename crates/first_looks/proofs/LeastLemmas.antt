-- The first step that a replaced file touches.
use Rattle.std.proofs.Common.{◌≡◌, ◌<◌, ◌≤◌, ◌+◌, max, ◌⊎◌, inl, inr, ℕ, Bool, true, false, cond, List, [], length, Option, Some, None, is_some, get_or, nat_lt, refl, sym, ap, subst, ◌∙◌, eqb-true, eq-eqb, arith}
use Rattle.std.specs.Prelude.{IsTrue, ◌↔◌, slice_index, unwrap_or}
use Rattle.std.proofs.lemmas.Bool.{cases_lt}
use Rattle.std.proofs.lemmas.List.{get_or_past}
use Rattle.std.proofs.lemmas.Option.{slice_get_past}
use Rattle.std.specs.Option.{option_map}
use Rattle.std.proofs.lemmas.Bool.Decides.{nat_tests}
use Rattle.std.proofs.Math.Nat.{eq-or-lt_of_le}
use Rattle.std.specs.FinMap.{get}
use Rattle.hostfiles.specs.Hosts.{Key, Record, Host}
use Rattle.hostfiles.specs.declared.looks.Ask.{Ask}
use Rattle.hostfiles.specs.declared.looks.Ask.TheVariants.{Has, Length, Rec, Directory}
use Rattle.file_calls.specs.FileQuestions.{is_on}
use Rattle.file_calls.specs.HostTrees.{host_answers}
use Rattle.first_looks.specs.declared.file_steps.FileSteps.{FileSteps}
use Rattle.first_looks.specs.FirstSteps.{Steps, step_in}
use Rattle.first_looks.specs.SequentialSteps.{IsEarliestFrom}
use Rattle.first_looks.specs.RecordSteps.{step_of_record, step_within, steps_of}
use Rattle.first_looks.specs.FileSteps.{lesser_step, step_of_ask}
use Rattle.first_looks.specs.Touch.{count_of, record_of, IsFileTouch, IsRecordTouch}
use Rattle.first_looks.specs.Setting.{with_file}
use Rattle.first_looks.proofs.AnswerLemmas.{file_here, cases_key, answers_apart, directory_same, names_tell}

-- ---- one question

-- t is the lesser of a question's step and `least`, but `least` if the answer is the same.
pub record IsLesser (is_same : Bool) (step : Option ℕ) (least t : ℕ) : Type 0 where
  pub within : t ≤ least
  pub below : (m : ℕ) → step ≡ Some m → m < t → is_same ≡ true
  pub here : (t ≡ least) ⊎ ((step ≡ Some t) × (is_same ≡ false))

lesser_is : (b : Bool) (step : Option ℕ) (least : ℕ) → IsLesser b step least (cond b least (lesser_step step least))
lesser_is true step least = record { within = omega arith; below = λ m e l. refl; here = inl refl }
lesser_is false None least = record { within = omega arith; below = λ m e l. cc; here = inl refl }
lesser_is false (Some n) least = elim (nat_lt n least) as (λ b. nat_lt n least ≡ b → IsLesser false (Some n) least (cond b n least)) [
  | true ↦ λ e. record { within = grind (arith, nat_tests); below = λ m is l. (let same : n ≡ m = cc in absurd (omega arith)); here = inr (refl, refl) }
  | false ↦ λ e. record { within = omega arith; below = λ m is l. (let same : n ≡ m = cc in absurd (grind (arith, nat_tests))); here = inl refl }
] refl

pub lesser_by : (b : Bool) (step : Option ℕ) (least t : ℕ) → t ≡ cond b least (lesser_step step least) → IsLesser b step least t
lesser_by b step least t e = subst (IsLesser b step least) (sym e) (lesser_is b step least)

-- ---- the records of a file

-- A touch among the record numbers below n.
pub record IsTouchUpTo (n : ℕ) (old new : Option (List Record)) (steps : Option Steps) (least touch : ℕ) : Type 0 where
  pub within : touch ≤ least
  pub below : (k m : ℕ) → k < n → step_within steps k ≡ Some m → m < touch → record_of old k ≡ record_of new k
  pub here : (touch ≡ least) ⊎ ((k : ℕ) × (step_within steps k ≡ Some touch) × (record_of old k ≡ record_of new k → ⊥))

module _ (old new : Option (List Record)) (steps : Option Steps) (least : ℕ) where
  pub touch_of_none : IsTouchUpTo 0 old new steps least least
  touch_of_none = record { within = omega arith; below = λ k m l e h. absurd (omega arith); here = inl refl }

  pub touch_of_more : (n touch : ℕ) → IsTouchUpTo n old new steps least touch → (b : Bool) → (IsTrue b ↔ (record_of old n ≡ record_of new n)) → (t : ℕ) → IsLesser b (step_within steps n) touch t
      → IsTouchUpTo (n + 1) old new steps least t
  touch_of_more n touch so b same t one = record {
    within = (let x = so.within in let y = one.within in omega arith);
    below = λ k m l e h. (let within : k ≤ n = omega arith in elim (eq-or-lt_of_le {n = k} {m = n} within) [
      | inl is ↦
          let q : record_of old n ≡ record_of new n = same.0 (one.below m (ap (step_within steps) (sym is) ∙ e) h) in
          subst (λ x. record_of old x ≡ record_of new x) (sym is) q
      | inr low ↦ so.below k m low e (let y = one.within in omega arith)
    ]);
    here = elim one.here [
      | inl is ↦ subst (λ x. (x ≡ least) ⊎ ((k : ℕ) × (step_within steps k ≡ Some x) × (record_of old k ≡ record_of new k → ⊥))) (sym is) so.here
      | inr h ↦ inr (n, h.0, λ e. let yes = same.1 e in cc)
    ];
  }

  -- From n on, no record that is different has a step before the touch.
  abbrev pub IsRestPast : ℕ → ℕ → Type 0
  IsRestPast n touch = (k m : ℕ) → n ≤ k → step_within steps k ≡ Some m → m < touch → record_of old k ≡ record_of new k

  pub touch_of_all : (key : Key) (all : FileSteps) → steps_of all.records.files key ≡ steps → (n touch : ℕ) → IsTouchUpTo n old new steps least touch → IsRestPast n touch → IsRecordTouch key old new all least touch
  touch_of_all key all is n touch so rest =
      let same : (k : ℕ) → step_of_record all.records key k ≡ step_within steps k = λ k. ap (λ s. step_within s k) is in
      record {
        within = so.within;
        below = λ k m e l. (elim (cases_lt k n) [ inl low ↦ so.below k m low (sym (same k) ∙ e) l | inr high ↦ rest k m high (sym (same k) ∙ e) l ]);
        here = elim so.here [ inl e ↦ inl e | inr h ↦ inr (h.0, same h.0 ∙ h.1, h.2) ];
      }

-- No record of the file has a step.
pub touch_of_no_step : (key : Key) (old new : Option (List Record)) (all : FileSteps) (least : ℕ) → steps_of all.records.files key ≡ None → IsRecordTouch key old new all least least
touch_of_no_step key old new all least none =
    touch_of_all old new None least key all none 0 least (touch_of_none old new None least) (λ k m h e l. cc)

-- Past both files there is no record; past the last index with a step there is no step; past an index with the earliest step, no
-- step is earlier.
pub past_both : (old new : Option (List Record)) (steps : Option Steps) (least n touch : ℕ) → max (count_of old) (count_of new) ≤ n → IsRestPast old new steps least n touch
past_both old new steps least n touch h = λ k m high e l. slice_get_past (unwrap_or old []) k (omega arith) ∙ sym (slice_get_past (unwrap_or new []) k (omega arith))

pub past_steps : (old new : Option (List Record)) (steps : Steps) (least n touch : ℕ) → length steps.entries ≤ n → IsRestPast old new (Some steps) least n touch
past_steps old new steps least n touch h = λ k m high e l. let none : step_in steps.entries k ≡ None = get_or_past steps.entries k None (omega arith) in cc

pub past_earliest : (old new : Option (List Record)) (steps : Steps) (least n before touch : ℕ) (b : Bool) → b ≡ false → IsLesser b (step_in steps.entries n) before touch → IsEarliestFrom steps.entries n → IsRestPast old new (Some steps) least (n + 1) touch
past_earliest old new steps least n before touch b other one (first, here, earliest) = λ k m high e l.
    let low : first ≤ m = earliest k m (omega arith) e in
    let yes : b ≡ true = one.below first here (omega arith) in
    let both : false ≡ true = sym other ∙ yes in
    cc

-- ---- all questions

module _ (host : Host) (key : Key) (file : Option (List Record)) (steps : FileSteps) where
  abbrev then : Host
  then = with_file host key file

  here_has : (is_some (get host key) ≡ is_some file) → host_answers host (Has key) ≡ host_answers then (Has key)
  here_has e = e ∙ ap is_some (sym (file_here host key file))

  here_length : (option_map length (get host key) ≡ option_map length file) → host_answers host (Length key) ≡ host_answers then (Length key)
  here_length e = e ∙ ap (option_map length) (sym (file_here host key file))

  here_record : (k : ℕ) → (record_of (get host key) k ≡ record_of file k) → host_answers host (Rec key k) ≡ host_answers then (Rec key k)
  here_record k e = e ∙ ap (λ f. record_of f k) (sym (file_here host key file))

  module _ (is_has is_length : Bool) (one : IsTrue is_has ↔ (is_some (get host key) ≡ is_some file)) (two : IsTrue is_length ↔ (option_map length (get host key) ≡ option_map length file))
      (least has lengths directory touch : ℕ) (first : IsLesser is_has (get steps.has key) least has) (second : IsLesser is_length (get steps.lengths key) has lengths)
      (third : IsLesser is_length (get_or steps.directories (slice_index key 0) None) lengths directory) (last : IsRecordTouch key (get host key) file steps directory touch) where
    -- The directory of a drive: another drive, or the drive of the key.
    at_drive : (drive m : ℕ) → get_or steps.directories drive None ≡ Some m → m < directory → host_answers host (Directory drive) ≡ host_answers then (Directory drive)
    at_drive drive m e l = elim (is_on drive key) as (λ b. is_on drive key ≡ b → host_answers host (Directory drive) ≡ host_answers then (Directory drive)) [
      | true ↦ λ on. (let is = eqb-true drive (slice_index key 0) on in
          let yes = third.below m (ap (λ d. get_or steps.directories d None) (sym is) ∙ e) l in directory_same host key file drive (two.0 yes))
      | false ↦ λ off. answers_apart host key file (Directory drive) off
    ] refl

    pub touch_below : (q : Ask) (m : ℕ) → step_of_ask steps q ≡ Some m → m < touch → host_answers host q ≡ host_answers then q
    touch_below (Has q) m e l = elim (cases_key q key) [
      | inl is ↦
          let yes = first.below m (ap (get steps.has) (sym is) ∙ e) (let a = last.within in let b = third.within in let d = second.within in omega arith) in
          let P : Key → Type 0 = λ x. host_answers host (Has x) ≡ host_answers then (Has x) in subst P (sym is) (here_has (one.0 yes))
      | inr apart ↦ answers_apart host key file (Has q) apart
    ]
    touch_below (Length q) m e l = elim (cases_key q key) [
      | inl is ↦
          let yes = second.below m (ap (get steps.lengths) (sym is) ∙ e) (let a = last.within in let b = third.within in omega arith) in
          let P : Key → Type 0 = λ x. host_answers host (Length x) ≡ host_answers then (Length x) in subst P (sym is) (here_length (two.0 yes))
      | inr apart ↦ answers_apart host key file (Length q) apart
    ]
    touch_below (Rec q k) m e l = elim (cases_key q key) [
      | inl is ↦
          let same = last.below k m (ap (λ x. step_of_record steps.records x k) (sym is) ∙ e) l in
          let P : Key → Type 0 = λ x. host_answers host (Rec x k) ≡ host_answers then (Rec x k) in subst P (sym is) (here_record k same)
      | inr apart ↦ answers_apart host key file (Rec q k) apart
    ]
    touch_below (Directory drive) m e l = at_drive drive m e (let a = last.within in omega arith)

    abbrev IsHere : ℕ → Type 0
    IsHere t = (t ≡ least) ⊎ ((q : Ask) × (step_of_ask steps q ≡ Some t) × (host_answers host q ≡ host_answers then q → ⊥))

    has_here : IsHere has
    has_here = elim first.here [
      | inl is ↦ inl is
      | inr h ↦ inr (Has key, h.0, λ e. let yes = one.1 (e ∙ ap is_some (file_here host key file)) in cc)
    ]

    lengths_here : IsHere lengths
    lengths_here = elim second.here [
      | inl is ↦ subst IsHere (sym is) has_here
      | inr h ↦ inr (Length key, h.0, λ e. let yes = two.1 (e ∙ ap (option_map length) (file_here host key file)) in cc)
    ]

    directory_here : IsHere directory
    directory_here = elim third.here [
      | inl is ↦ subst IsHere (sym is) lengths_here
      | inr h ↦ inr (
        Directory (slice_index key 0),
        h.0,
        λ e.
            let yes = two.1 (names_tell (slice_index key 0) host then key (eq-eqb (slice_index key 0) (slice_index key 0) refl) e ∙ ap (option_map length) (file_here host key file)) in cc,
      )
    ]

    touch_here : IsHere touch
    touch_here = elim last.here [
      | inl is ↦ subst IsHere (sym is) directory_here
      | inr (k, there, apart) ↦ inr (Rec key k, there, λ e. apart (e ∙ ap (λ f. record_of f k) (file_here host key file)))
    ]

    pub file_touch : IsFileTouch host then steps least touch
    file_touch = record {
      within = (let a = last.within in let b = third.within in let d = second.within in let f = first.within in omega arith);
      below = touch_below;
      here = touch_here;
    }

-- The touch of a file, with an equal file before the change.
pub file_touch_by : (host : Host) (key : Key) (before file : Option (List Record)) (steps : FileSteps) → before ≡ get host key
    → (is_has is_length : Bool) → (IsTrue is_has ↔ (is_some before ≡ is_some file)) → (IsTrue is_length ↔ (option_map length before ≡ option_map length file))
    → (least has lengths directory touch : ℕ) → IsLesser is_has (get steps.has key) least has → IsLesser is_length (get steps.lengths key) has lengths
    → IsLesser is_length (get_or steps.directories (slice_index key 0) None) lengths directory → IsRecordTouch key before file steps directory touch
    → IsFileTouch host (with_file host key file) steps least touch
file_touch_by host key before file steps is is_has is_length one two least has lengths directory touch first second third last =
    file_touch host key file steps is_has is_length
    (subst (λ f. IsTrue is_has ↔ (is_some f ≡ is_some file)) is one)
    (subst (λ f. IsTrue is_length ↔ (option_map length f ≡ option_map length file)) is two)
    least has lengths directory touch first second third
    (subst (λ f. IsRecordTouch key f file steps directory touch) is last)
