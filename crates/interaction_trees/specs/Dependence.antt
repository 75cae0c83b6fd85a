-- A machine with two families of questions: those of a step to the state, and those of the state to the session. (This
-- project's own.)
--
-- S, B: the session's questions and their answers. Q, A: the state's questions and their answers. W: what a run wrote. St: a
-- state. R: the result of a step's tree of questions. X: the cause of a stop.
use Rattle.std.specs.Prelude.{◌≡◌, ℕ, ◌<◌, List, [], ◌∷◌, ◌++◌, Option, Some, None}
use Rattle.interaction_trees.specs.Outcome.{Outcome}
use Rattle.interaction_trees.specs.Steps as steps
use Rattle.interaction_trees.specs.Tree.{Tree, result_of, questions_of, AgreeOn}

-- The state answers each question by a small tree over the session. About what the run wrote itself it asks the session
-- nothing.
module _ {S : Type 0} {B : S → Type 0} {Q : Type 0} {A : Q → Type 0} {W : Type 0} (answer_tree : W → (q : Q) → Tree S B (A q)) where
  -- The answers of a state with own w, over a session that answers by f.
  abbrev pub laid : W → ((s : S) → B s) → (q : Q) → A q
  laid w f q = result_of f (answer_tree w q)

  -- The questions that the session is asked in order to answer these questions of the state.
  abbrev pub session_questions : W → ((s : S) → B s) → List Q → List S
  session_questions w f [] = []
  session_questions w f (q ∷ qs) = questions_of f (answer_tree w q) ++ session_questions w f qs

module _ {S : Type 0} {B : S → Type 0} {Q : Type 0} {A : Q → Type 0} {W St R X : Type 0}
    (answer_tree : W → (q : Q) → Tree S B (A q)) (own : St → W) (next : St → Tree Q A R) (finish : St → R → Outcome St X) (start : St) where
  -- The outcome at a state.
  unfoldable pub outcome : ((s : S) → B s) → St → Outcome St X
  outcome f st = finish st (result_of (laid answer_tree (own st) f) (next st))

  -- The questions that the session is asked at a state, also if the outcome is a stop.
  unfoldable pub looks_at : ((s : S) → B s) → St → List S
  looks_at f st = session_questions answer_tree (own st) f (questions_of (laid answer_tree (own st) f) (next st))

  -- The state after n steps, or none if the run stops earlier.
  abbrev pub after : ((s : S) → B s) → ℕ → Option St
  after f n = steps.after (outcome f) start n

  abbrev pub looks_if_any : ((s : S) → B s) → Option St → List S
  looks_if_any f None = []
  looks_if_any f (Some st) = looks_at f st

  -- The questions that the session is asked at the state after n steps, if there is one.
  unfoldable pub looks : ((s : S) → B s) → ℕ → List S
  looks f n = looks_if_any f (after f n)

  -- Prefix dependence: what no step below n looks at has no influence on the state after n steps, nor on the looks of these
  -- steps.
  abbrev pub PrefixDependence : Type 0
  PrefixDependence = (f g : (s : S) → B s) (n : ℕ) → ((i : ℕ) → i < n → AgreeOn (looks f i) f g)
      → (after g n ≡ after f n) × ((i : ℕ) → i < n → looks g i ≡ looks f i)
