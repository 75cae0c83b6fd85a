-- Paths through trees that are joined.
use Rattle.std.proofs.Common.{◌≡◌, ℕ, List, [], ◌∷◌, ◌++◌, refl, ap}
use Rattle.interaction_trees.specs.Tree.{Return, Query, result_of, questions_of}
use Rattle.i8080.specs.Memory.{Own, Looks, look, look_all}
use Rattle.i8080.specs.Reading.{Reading, Done}
use Rattle.i8080.specs.Reading as reading
use Rattle.console_calls.specs.StateQuestions.{Byte, Input, StateAnswers, StateTree, bind_reading, bind_tree, addresses, script_offsets}
use Rattle.console_calls.specs.ConsoleCalls.{CallEnd}
use Rattle.console_calls.specs.PerformsCall.{CallPath, path_by}

pub look_all-append : (own : Own) (xs ys : List ℕ) (looks : Looks) → look_all own (xs ++ ys) looks ≡ look_all own ys (look_all own xs looks)
look_all-append own [] ys looks = refl
look_all-append own (x ∷ xs) ys looks = look_all-append own xs ys (look own looks x)

-- A path that asks for these cells and offsets first.
abbrev pub path_after : List ℕ → List ℕ → CallPath → CallPath
path_after cells offsets p = record { end = p.end; cells = cells ++ p.cells; offsets = offsets ++ p.offsets }

module _ {E : Type 0} (f : StateAnswers) (k : E → StateTree CallEnd) where
  pub path-reads : (t : Reading E) → path_by f (bind_reading t k) ≡ path_after (reading.asked t (λ a. f (Byte a))) [] (path_by f (k (reading.end_of t (λ a. f (Byte a)))))
  path-reads (Done e) = refl
  path-reads (reading.Cell a t) = ap (path_after (a ∷ []) []) (path-reads (t (f (Byte a))))

  pub path-followed_by : (t : StateTree E) → path_by f (bind_tree t k) ≡ path_after (addresses (questions_of f t)) (script_offsets (questions_of f t)) (path_by f (k (result_of f t)))
  path-followed_by (Return e) = refl
  path-followed_by (Query (Byte a) t) = ap (path_after (a ∷ []) []) (path-followed_by (t (f (Byte a))))
  path-followed_by (Query (Input i) t) = ap (path_after [] (i ∷ [])) (path-followed_by (t (f (Input i))))
