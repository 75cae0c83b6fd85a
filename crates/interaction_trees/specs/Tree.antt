-- Finite interaction trees: a sequence of questions, each chosen in view of the answers so far, that ends with a result.
-- [Interaction Trees 2020]
use Rattle.std.specs.Prelude.{◌≡◌, List, [], ◌∷◌}

-- A result, or a question of a family with a tree for each answer.
pub data Tree (Q : Type 0) (A : Q → Type 0) (E : Type 0) : Type 0 where
  Return : E → Tree Q A E
  Query : (q : Q) → (A q → Tree Q A E) → Tree Q A E

module _ {Q : Type 0} {A : Q → Type 0} where
  -- The result of the tree with the answers of f.
  abbrev pub result_of : {E : Type 0} → ((q : Q) → A q) → Tree Q A E → E
  result_of f (Return e) = e
  result_of f (Query q k) = result_of f (k (f q))

  -- The questions that the tree asks with the answers of f, in order.
  abbrev pub questions_of : {E : Type 0} → ((q : Q) → A q) → Tree Q A E → List Q
  questions_of f (Return e) = []
  questions_of f (Query q k) = q ∷ questions_of f (k (f q))

  -- The tree with a function applied to its result.
  abbrev pub map_result : {E F : Type 0} → (E → F) → Tree Q A E → Tree Q A F
  map_result h (Return e) = Return (h e)
  map_result h (Query q k) = Query q (λ a. map_result h (k a))

  -- f and g give the same answer to each of these questions.
  abbrev pub AgreeOn : List Q → ((q : Q) → A q) → ((q : Q) → A q) → Type 0
  AgreeOn [] f g = Unit {0}
  AgreeOn (q ∷ qs) f g = (f q ≡ g q) × AgreeOn qs f g
