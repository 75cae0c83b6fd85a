-- On any machine, what no step looks at has no influence.
use Rattle.std.proofs.Common.{◌≡◌, ℕ, zero, suc, ◌<◌, List, [], ◌∷◌, ◌++◌, refl, ap, sym, arith, Option, Some, None}
use Rattle.interaction_trees.specs.Tree.{Tree, Return, Query, result_of, questions_of, AgreeOn, map_result}
use Rattle.interaction_trees.specs.Outcome.{Outcome}
use Rattle.interaction_trees.specs.Steps.{state_of}
use Rattle.interaction_trees.specs.Steps as steps
use Rattle.interaction_trees.specs.Dependence.{laid, session_questions}
use Rattle.interaction_trees.specs.Dependence as dependence

module _ {S : Type 0} {B : S → Type 0} where
  -- Answers that agree on the questions that a tree asks lead to the same result.
  pub same_result : {E : Type 0} (f g : (s : S) → B s) (t : Tree S B E) → AgreeOn (questions_of f t) f g → result_of g t ≡ result_of f t
  same_result f g (Return e) h = refl
  same_result f g (Query q k) h = rw (← h.0) (same_result f g (k (f q)) h.1)

  -- They also lead to the same questions.
  pub same_asked : {E : Type 0} (f g : (s : S) → B s) (t : Tree S B E) → AgreeOn (questions_of f t) f g → questions_of g t ≡ questions_of f t
  same_asked f g (Return e) h = refl
  same_asked f g (Query q k) h = rw (← h.0) (ap (λ qs. q ∷ qs) (same_asked f g (k (f q)) h.1))

  -- Answers that agree everywhere lead to the same result.
  pub same_everywhere : {E : Type 0} (f g : (s : S) → B s) (t : Tree S B E) → ((s : S) → f s ≡ g s) → result_of f t ≡ result_of g t
  same_everywhere f g (Return e) h = refl
  same_everywhere f g (Query q k) h = rw (h q) (same_everywhere f g (k (g q)) h)

  pub result_of-returning : {E F : Type 0} (f : (s : S) → B s) (h : E → F) (t : Tree S B E) → result_of f (map_result h t) ≡ h (result_of f t)
  result_of-returning f h (Return e) = refl
  result_of-returning f h (Query q k) = result_of-returning f h (k (f q))

  pub asked-returning : {E F : Type 0} (f : (s : S) → B s) (h : E → F) (t : Tree S B E) → questions_of f (map_result h t) ≡ questions_of f t
  asked-returning f h (Return e) = refl
  asked-returning f h (Query q k) = ap (λ (qs : List S). q ∷ qs) (asked-returning f h (k (f q)))

  pub agree_left : (f g : (s : S) → B s) (xs ys : List S) → AgreeOn (xs ++ ys) f g → AgreeOn xs f g
  agree_left f g [] ys h = tt
  agree_left f g (x ∷ xs) ys h = (h.0, agree_left f g xs ys h.1)

  pub agree_right : (f g : (s : S) → B s) (xs ys : List S) → AgreeOn (xs ++ ys) f g → AgreeOn ys f g
  agree_right f g [] ys h = h
  agree_right f g (x ∷ xs) ys h = agree_right f g xs ys h.1

module _ {S : Type 0} {B : S → Type 0} {Q : Type 0} {A : Q → Type 0} {W : Type 0} (answer_tree : W → (q : Q) → Tree S B (A q)) where
  -- If two sessions agree on the questions that reach them, the states agree.
  pub laid_agree : (w : W) (f g : (s : S) → B s) (qs : List Q) → AgreeOn (session_questions answer_tree w f qs) f g → AgreeOn qs (laid answer_tree w f) (laid answer_tree w g)
  laid_agree w f g [] h = tt
  laid_agree w f g (q ∷ qs) h =
      (sym (same_result f g (answer_tree w q) (agree_left f g _ _ h)), laid_agree w f g qs (agree_right f g _ _ h))

  pub same_passed : (w : W) (f g : (s : S) → B s) (qs : List Q) → AgreeOn (session_questions answer_tree w f qs) f g → session_questions answer_tree w g qs ≡ session_questions answer_tree w f qs
  same_passed w f g [] h = refl
  same_passed w f g (q ∷ qs) h =
      rw (same_asked f g (answer_tree w q) (agree_left f g _ _ h)) (ap (λ qs. questions_of f (answer_tree w q) ++ qs) (same_passed w f g qs (agree_right f g _ _ h)))

module _ {S : Type 0} {B : S → Type 0} {Q : Type 0} {A : Q → Type 0} {W St R X : Type 0}
    (answer_tree : W → (q : Q) → Tree S B (A q)) (own : St → W) (next : St → Tree Q A R) (finish : St → R → Outcome St X) (start : St) where
  abbrev outcome : ((s : S) → B s) → St → Outcome St X
  outcome = dependence.outcome answer_tree own next finish start

  abbrev looks_at : ((s : S) → B s) → St → List S
  looks_at = dependence.looks_at answer_tree own next finish start

  abbrev then_step : ((s : S) → B s) → Option St → Option St
  then_step f = steps.next_state (outcome f)

  abbrev after : ((s : S) → B s) → ℕ → Option St
  after = dependence.after answer_tree own next finish start

  abbrev looks_of : ((s : S) → B s) → Option St → List S
  looks_of = dependence.looks_if_any answer_tree own next finish start

  abbrev looks : ((s : S) → B s) → ℕ → List S
  looks = dependence.looks answer_tree own next finish start

  pub same_outcome : (f g : (s : S) → B s) (st : St) → AgreeOn (looks_at f st) f g → outcome g st ≡ outcome f st
  unfolding dependence.outcome dependence.looks_at
  same_outcome f g st h =
      ap (finish st) (same_result (laid answer_tree (own st) f) (laid answer_tree (own st) g) (next st) (laid_agree answer_tree (own st) f g _ h))

  pub same_looks_at : (f g : (s : S) → B s) (st : St) → AgreeOn (looks_at f st) f g → looks_at g st ≡ looks_at f st
  unfolding dependence.looks_at
  same_looks_at f g st h =
      rw (same_asked (laid answer_tree (own st) f) (laid answer_tree (own st) g) (next st) (laid_agree answer_tree (own st) f g _ h)) (same_passed answer_tree (own st) f g _ h)

  same_then : (f g : (s : S) → B s) (o : Option St) → AgreeOn (looks_of f o) f g → then_step g o ≡ then_step f o
  same_then f g None h = refl
  same_then f g (Some st) h = ap state_of (same_outcome f g st h)

  same_looks_of : (f g : (s : S) → B s) (o : Option St) → AgreeOn (looks_of f o) f g → looks_of g o ≡ looks_of f o
  same_looks_of f g None h = refl
  same_looks_of f g (Some st) h = same_looks_at f g st h

  pub same_after : (f g : (s : S) → B s) (n : ℕ) → ((i : ℕ) → i < n → AgreeOn (looks f i) f g) → after g n ≡ after f n
  unfolding steps.after dependence.looks
  same_after f g zero h = refl
  same_after f g (suc n) h = rw (same_after f g n (λ i k. h i (omega arith))) (same_then f g (after f n) (h n (omega arith)))

  pub same_looks : (f g : (s : S) → B s) (n : ℕ) → ((i : ℕ) → i < n → AgreeOn (looks f i) f g) → AgreeOn (looks f n) f g → looks g n ≡ looks f n
  unfolding dependence.looks
  same_looks f g n h k = rw (same_after f g n h) (same_looks_of f g (after f n) k)

  -- The theorem.
  pub prefix_dependence : dependence.PrefixDependence answer_tree own next finish start
  prefix_dependence f g n h =
      (same_after f g n h, λ i k. same_looks f g i (λ j m. h j (omega arith)) (h i k))
