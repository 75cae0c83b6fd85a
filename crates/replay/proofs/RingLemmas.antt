-- Checkpoints that are kept, made and dropped.
use Rattle.std.proofs.Common.{◌≡◌, ℕ, zero, suc, ◌-◌, ◌<◌, ◌≤◌, List, [], ◌∷◌, ◌++◌, length, drop, take, Some, None, ◌⊎◌, inl, inr, refl, ap, ◌∙◌, arith, length-append, length-drop, append_assoc}
use Rattle.std.specs.Prelude.{slice_get, Result, Ok, Err, OnErr}
use Rattle.std.proofs.lemmas.List.{drop-append-le, drop-drop}
use Rattle.circular_buffer.specs.Buffer.{Buffer, keep_last, last_item}
use Rattle.first_looks.proofs.OrderLemmas.{taken_last}
use Rattle.replay.specs.declared.ring.Checkpoint.{Checkpoint}
use Rattle.replay.specs.Ring.{Each, Rising, PushesIfAbove, SomeStep, DropsPast}

pub on_err : {T E : Type 0} (r : Result T E) (P : Type 0) → P → OnErr r P
on_err (Ok x) P p = tt
on_err (Err e) P p = p

pub Each-weaken : {X : Type 0} (P Q : X → Type 0) (xs : List X) → ((x : X) → P x → Q x) → Each P xs → Each Q xs
Each-weaken P Q [] f h = tt
Each-weaken P Q (x ∷ xs) f h = (f x h.0, Each-weaken P Q xs f h.1)

pub Each-append : {X : Type 0} (P : X → Type 0) (xs ys : List X) → Each P xs → Each P ys → Each P (xs ++ ys)
Each-append P [] ys h k = k
Each-append P (x ∷ xs) ys h k = (h.0, Each-append P xs ys h.1 k)

pub Each-left : {X : Type 0} (P : X → Type 0) (xs ys : List X) → Each P (xs ++ ys) → Each P xs
Each-left P [] ys h = tt
Each-left P (x ∷ xs) ys h = (h.0, Each-left P xs ys h.1)

pub Each-right : {X : Type 0} (P : X → Type 0) (xs ys : List X) → Each P (xs ++ ys) → Each P ys
Each-right P [] ys h = h
Each-right P (x ∷ xs) ys h = Each-right P xs ys h.1

pub Each-drop : {X : Type 0} (P : X → Type 0) (n : ℕ) (xs : List X) → Each P xs → Each P (drop n xs)
Each-drop P zero xs h = h
Each-drop P (suc n) [] h = tt
Each-drop P (suc n) (x ∷ xs) h = Each-drop P n xs h.1

pub keep_last-keep_last : {X : Type 0} (n : ℕ) (xs ys : List X) → keep_last n (keep_last n xs ++ ys) ≡ keep_last n (xs ++ ys)
keep_last-keep_last n xs ys =
    let k = length xs - n in
    let short : k ≤ length xs = omega arith in
    let e = drop-append-le k xs ys short in
    let l = length-append xs ys in
    let d = length-drop k (xs ++ ys) in
    rw (← e) (drop-drop (length (drop k (xs ++ ys)) - n) k (xs ++ ys) ∙ ap (λ (i : ℕ). drop i (xs ++ ys)) (omega arith))

pub keep_last-all : {X : Type 0} (n : ℕ) (xs : List X) → length xs ≤ n → keep_last n xs ≡ xs
keep_last-all n xs h = let e : length xs - n ≡ 0 = omega arith in rw e refl

pub Each-keep_last : {X : Type 0} (P : X → Type 0) (n : ℕ) (xs : List X) → Each P xs → Each P (keep_last n xs)
Each-keep_last P n xs h = Each-drop P (length xs - n) xs h

pub Rising-push : (xs : List Checkpoint) (c : Checkpoint) → Rising xs → Each (λ d. d.step < c.step) xs → Rising (xs ++ c ∷ [])
Rising-push [] c r b = (tt, tt)
Rising-push (x ∷ xs) c r b = (Each-append _ xs (c ∷ []) r.0 (b.0, tt), Rising-push xs c r.1 b.1)

pub Rising-left : (xs ys : List Checkpoint) → Rising (xs ++ ys) → Rising xs
Rising-left [] ys r = tt
Rising-left (x ∷ xs) ys r = (Each-left _ xs ys r.0, Rising-left xs ys r.1)

pub Rising-drop : (n : ℕ) (xs : List Checkpoint) → Rising xs → Rising (drop n xs)
Rising-drop zero xs r = r
Rising-drop (suc n) [] r = tt
Rising-drop (suc n) (x ∷ xs) r = Rising-drop n xs r.1

-- The last step of a rising list is the greatest.
pub last_greatest : (xs : List Checkpoint) (c : Checkpoint) → Rising xs → last_item xs ≡ Some c → Each (λ d. d.step ≤ c.step) xs
last_greatest [] c r e = tt
last_greatest (x ∷ []) c r e = let same : x ≡ c = cc in (rw same (omega arith), tt)
last_greatest (x ∷ (y ∷ ys)) c r e =
    let two : suc (suc (length ys)) - 1 ≡ suc (length ys) = omega arith in
    let one : suc (length ys) - 1 ≡ length ys = omega arith in
    let there : slice_get (y ∷ ys) (length ys) ≡ Some c = rw two at e in
    let rest = last_greatest (y ∷ ys) c r.1 (rw one there) in
    let here : x.step < y.step = r.0.0 in
    let there : y.step ≤ c.step = rest.0 in
    (omega arith, rest)

none_there : (x : Checkpoint) (xs : List Checkpoint) → slice_get (x ∷ xs) (length xs) ≡ None → ⊥
none_there x [] e = cc
none_there x (y ∷ ys) e = none_there y ys e

pub none_last : (P : Checkpoint → Type 0) (xs : List Checkpoint) → last_item xs ≡ None → Each P xs
none_last P [] e = tt
none_last P (x ∷ xs) e =
    let one : suc (length xs) - 1 ≡ length xs = omega arith in
    absurd (none_there x xs (rw one at e))

module _ (newest : ℕ) (ring : Buffer Checkpoint) (c : Checkpoint) where
  pub kept_capacity : (next : Buffer Checkpoint) → PushesIfAbove newest ring next c → next.capacity ≡ ring.capacity
  kept_capacity next (inl e) = rw e refl
  kept_capacity next (inr k) = rw k.1 refl

  pub kept_each : (P : Checkpoint → Type 0) (next : Buffer Checkpoint) → PushesIfAbove newest ring next c → Each P ring.items → (newest < c.step → P c) → Each P next.items
  kept_each P next (inl e) h here = rw e h
  kept_each P next (inr k) h here = rw k.1 (Each-keep_last P ring.capacity (ring.items ++ c ∷ []) (Each-append P ring.items (c ∷ []) h (here k.0, tt)))

  pub kept_rising : (next : Buffer Checkpoint) → PushesIfAbove newest ring next c → Rising ring.items → Each (λ d. d.step ≤ newest) ring.items → Rising next.items
  kept_rising next (inl e) rising top = rw e rising
  kept_rising next (inr k) rising top = rw k.1 (Rising-drop (length (ring.items ++ c ∷ []) - ring.capacity) (ring.items ++ c ∷ []) (Rising-push ring.items c rising (Each-weaken _ _ ring.items (λ d h. omega (arith, h, k.0)) top)))

-- No checkpoint is made below the newest.
pub kept_same : (newest : ℕ) (ring next : Buffer Checkpoint) (c : Checkpoint) → PushesIfAbove newest ring next c → c.step ≤ newest → next ≡ ring
kept_same newest ring next c (inl e) low = e
kept_same newest ring next c (inr k) low = absurd (let h : newest < c.step = k.0 in omega arith)

some_below : (from newest : ℕ) (xs : List Checkpoint) → SomeStep xs from → Each (λ c. c.step ≤ newest) xs → from ≤ newest
some_below from newest [] h b = absurd h
some_below from newest (x ∷ xs) (inl e) b = omega (arith, b.0)
some_below from newest (x ∷ xs) (inr h) b = some_below from newest xs h b.1

-- The step where a run begins is within any bound of all kept steps.
pub begins_below : (from newest : ℕ) (xs : List Checkpoint) → (from ≡ 0) ⊎ SomeStep xs from → Each (λ c. c.step ≤ newest) xs → from ≤ newest
begins_below from newest xs (inl e) b = omega arith
begins_below from newest xs (inr h) b = some_below from newest xs h b

pub popped : (old new gone : List Checkpoint) (c : Checkpoint) (touch : ℕ) → last_item old ≡ Some c → new ≡ take (length old - 1) old → touch < c.step → Each (λ d. touch < d.step) gone
    → Rising old → (old ++ gone ≡ new ++ (c ∷ gone)) × Rising new
popped old new gone c touch last e past h rising =
    let split : old ≡ new ++ c ∷ [] = rw e (taken_last old c last) in
    (ap (λ (zs : List Checkpoint). zs ++ gone) split ∙ append_assoc new (c ∷ []) gone, Rising-left new (c ∷ []) (rw split at rising))

pub kept_up_to : (old now gone : List Checkpoint) (c : Checkpoint) (touch : ℕ) → old ≡ now ++ gone → Rising now → last_item now ≡ Some c → c.step ≤ touch → Each (λ d. touch < d.step) gone → DropsPast touch old now
kept_up_to old now gone c touch parts rising last low past =
    record { gone = gone; parts = parts; left = Each-weaken _ _ now (λ d h. omega (arith, h)) (last_greatest now c rising last); past = past }
