-- The outcome at a state of any machine. (This project's own.)

-- A step to another state, or a stop.
pub data Outcome (St X : Type 0) : Type 0 where
  Step : St → Outcome St X
  Stop : X → Outcome St X
