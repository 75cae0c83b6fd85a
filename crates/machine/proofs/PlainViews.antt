-- The state of a run on the plain machine.
use Rattle.std.proofs.Common.{◌≡◌, true, false, ℕ, ◌+◌, ◌<◌, Option, Some, None, Ok, Err, IfOk, IfNone, IfSome, unwrap_or, refl, sym, ◌∙◌, ap, arith, add-one}
use Rattle.std.specs.declared.result.Result.{Result}
use Rattle.std.specs.declared.alloc.AllocError.{AllocError}
use Rattle.std.specs.Option.{option_map}
use Rattle.std.specs.Prelude.{slice_index}
use Rattle.interaction_trees.specs.Outcome.{Step, Stop}
use Rattle.interaction_trees.specs.Steps.{map_outcome}
use Rattle.interaction_trees.specs.Steps as steps
use Rattle.interaction_trees.proofs.RunLemmas.{step_before}
use Rattle.console_calls.specs.declared.cause.Cause.{Cause}
use Rattle.machine.specs.Inputs.{Session}
use Rattle.machine.specs.StateView.{PartialState}
use Rattle.machine.specs.Session.{image_of, IsSession}
use Rattle.machine.specs.Machine.{session_answers, after, cell_at, outcome}
use Rattle.machine.specs.PlainLaid.{laid_state, plain_after}
use Rattle.machine.specs.PlainState.{PlainState, loaded_machine, plain_outcome}
use Rattle.machine.specs.Runs.{Leads, MakesNoCall, RunView, StopsHere, EndsBy, state_of}
use Rattle.machine.specs.declared.stretch.Until.TheVariants.{Call, End}
use Rattle.machine.specs.Step.{is_call}
use Rattle.machine.specs.Stretch.{CallsNothing, RunsTo}
use Rattle.std.specs.FinMap as finmap
use Rattle.machine.specs.WrittenCells.{DeskAndFiles, state_with, written_cells}
use Rattle.i8080.specs.declared.registers.Regs.{Regs}
use Rattle.machine.proofs.PlainSteps.{cell_is, plain_machine_is_laid}
use Rattle.machine.proofs.StepLemmas.{answered}
use Rattle.machine.proofs.WrittenCellLemmas.{InCells, get_written}

module _ (r : RunView) (st : PartialState) (is : IsSession r.session) (at : after (session_answers r.session) r.step ≡ Some st) where
  laid_at : plain_after r.session r.step ≡ Some (laid_state r.session st)
  laid_at = plain_machine_is_laid.states r.session is r.step ∙ ap (option_map (laid_state r.session)) at

  -- It is what the run wrote and did, laid over its session.
  pub state_is : state_of r ≡ laid_state r.session st
  state_is = ap (λ (o : Option PlainState). unwrap_or o (loaded_machine r.session)) laid_at

  pub plain_at : plain_after r.session r.step ≡ Some (state_of r)
  plain_at = laid_at ∙ ap (λ (w : PlainState). Some w) (sym state_is)

  -- A stop that follows it follows on the plain machine.
  pub plain_stop : (cause : Cause) → outcome (session_answers r.session) st ≡ Stop cause → StopsHere r cause
  plain_stop cause stops = ap (plain_outcome r.session) state_is ∙ plain_machine_is_laid.outcomes r.session is r.step st at ∙ ap (map_outcome (laid_state r.session)) stops

-- Where a run ended.
module _ (s : Session) (from end n : ℕ) (seen : Option ℕ) (st : PartialState) (is : IsSession s) where
  pub ends_by : (result : Result (Option Cause) AllocError) → RunsTo End s from end n result st → IfOk result (λ stop. EndsBy (record { session = s; step = n; seen = seen }) end stop)
  ends_by (Ok None) w = w.ended
  ends_by (Ok (Some cause)) w = (w.stopped.0, st, w.at, w.stopped.1)
  ends_by (Err e) w = tt

  pub stops_here : (result : Result (Option Cause) AllocError) → RunsTo End s from end n result st → IfOk result (λ stop. IfSome stop (StopsHere (record { session = s; step = n; seen = seen })))
  stops_here (Ok None) w = tt
  stops_here (Ok (Some cause)) w = plain_stop (record { session = s; step = n; seen = seen }) st is w.at cause w.stopped.1
  stops_here (Err e) w = tt

-- The byte of a cell is the written one, or else the session's.
pub byte_is : (s : Session) (regs : Regs) (d : DeskAndFiles) (own : ℕ → Option ℕ) → InCells own → (a : ℕ) → unwrap_or (own a) (image_of s a) ≡ cell_at s (state_with regs d own) a
byte_is s regs d own inside a =
    sym (answered (session_answers s) (finmap.get (written_cells own) a) a ∙ ap (λ (o : Option ℕ). unwrap_or o (image_of s a)) (get_written own inside a))

-- It is in the memory of the plain machine.
pub plain_byte : (r : RunView) (st : PartialState) → IsSession r.session → after (session_answers r.session) r.step ≡ Some st → (a : ℕ) → a < 65536
    → cell_at r.session st a ≡ slice_index (state_of r).memory a
plain_byte r st is at a below = sym (ap (λ (w : PlainState). slice_index w.memory a) (state_is r st is at) ∙ cell_is r.session st a below)

-- Steps that are no calls are none on the plain machine.
pub no_call : (s : Session) (from upto : ℕ) → IsSession s → CallsNothing (session_answers s) from upto → MakesNoCall s from upto
no_call s from upto is calls i w low high there = pick (after (session_answers s) i) refl where
  pick : (o : Option PartialState) → after (session_answers s) i ≡ o → is_call w.core ≡ false
  pick None e = let none : Some w ≡ None = sym there ∙ plain_machine_is_laid.states s is i ∙ ap (option_map (laid_state s)) e in absurd (cc)
  pick (Some st) e =
      let same : Some w ≡ Some (laid_state s st) = sym there ∙ plain_machine_is_laid.states s is i ∙ ap (option_map (laid_state s)) e in
      let equal : w ≡ laid_state s st = cc in
      ap (λ (x : PlainState). is_call x.core) equal ∙ calls i st low high e

-- One step, or a stop.
module _ (s : Session) (from n : ℕ) (seen seen' : Option ℕ) (st st' : PartialState) (is : IsSession s) (at : after (session_answers s) from ≡ Some st) (at' : after (session_answers s) n ≡ Some st') where
  abbrev before : RunView
  before = record { session = s; step = from; seen = seen }

  abbrev then : RunView
  then = record { session = s; step = n; seen = seen' }

  one_step : n ≡ from + 1 → outcome (session_answers s) st ≡ Step st'
  unfolding steps.after
  one_step one =
      let (b, here, went) = step_before (outcome (session_answers s)) (after (session_answers s) from) st' (rw (one, add-one) at at') in
      let same : Some b ≡ Some st = sym here ∙ at in
      let equal : b ≡ st = cc in
      ap (outcome (session_answers s)) (sym equal) ∙ went

  leads_on : n ≡ from + 1 → plain_outcome s (state_of before) ≡ Step (state_of then)
  leads_on one =
      ap (plain_outcome s) (state_is before st is at) ∙ plain_machine_is_laid.outcomes s is from st at
      ∙ ap (map_outcome (laid_state s)) (one_step one) ∙ ap (λ (w : PlainState). Step w) (sym (state_is then st' is at'))

  stops_there : (cause : Cause) → n ≡ from → outcome (session_answers s) st' ≡ Stop cause → plain_outcome s (state_of before) ≡ Stop cause
  stops_there cause none stops =
      let same : Some st' ≡ Some st = sym at' ∙ ap (after (session_answers s)) none ∙ at in
      let equal : st' ≡ st = cc in
      plain_stop before st is at cause (ap (outcome (session_answers s)) (sym equal) ∙ stops)

  pub leads : (result : Result (Option Cause) AllocError) → RunsTo End s from (from + 1) n result st' → IfOk result (λ stop. Leads before then stop)
  leads (Ok None) w = (w.ended, leads_on w.ended)
  leads (Ok (Some cause)) w =
      let none : n ≡ from = omega (arith, w.within, w.stopped.0) in
      (none, stops_there cause none w.stopped.1)
  leads (Err e) w = tt

-- A run that went on to a call.
module _ (s : Session) (from end n : ℕ) (seen : Option ℕ) (st : PartialState) (is : IsSession s) where
  abbrev reached : RunView
  reached = record { session = s; step = n; seen = seen }

  same_kind : after (session_answers s) n ≡ Some st → is_call (state_of reached).core ≡ is_call st.core
  same_kind at = ap (λ (w : PlainState). is_call w.core) (state_is reached st is at)

  pub arrives : (result : Result (Option Cause) AllocError) → RunsTo Call s from end n result st → IfOk result (λ stop. IfNone stop (n < end → is_call (state_of reached).core ≡ true))
  arrives (Ok None) w = λ below. same_kind w.at ∙ w.ended below
  arrives (Ok (Some cause)) w = tt
  arrives (Err e) w = tt

  pub ends_apart : (result : Result (Option Cause) AllocError) → RunsTo Call s from end n result st
      → IfOk result (λ stop. IfSome stop (λ cause. EndsBy reached end (Some cause) × (is_call (state_of reached).core ≡ false) × StopsHere reached cause))
  ends_apart (Ok None) w = tt
  ends_apart (Ok (Some cause)) w = (
    (w.stopped.0, st, w.at, w.stopped.1),
    same_kind w.at ∙ w.apart refl,
    plain_stop reached st is w.at cause w.stopped.1,
  )
  ends_apart (Err e) w = tt
