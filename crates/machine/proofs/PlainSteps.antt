-- The plain machine makes the same steps.
use Rattle.std.proofs.Common.{rules, inl, inr, ◌≡◌, ℕ, ◌+◌, ◌<◌, ◌≤◌, Option, Some, None, List, [], ◌∷◌, length, get_or, unwrap_or, refl, sym, ◌∙◌, ap, arith, cond, eqb, get_or-set_same, get_or-set_other, length-set, nat_lt, Bool, true, false, subst}
use Rattle.std.specs.Prelude.{slice_index, slice_set}
use Rattle.std.specs.Ordering.{nat_cmp}
use Rattle.std.specs.FinMap as finmap
use Rattle.std.proofs.lemmas.Bool.Decides.{eqb_tells, leb_tells}
use Rattle.std.proofs.lemmas.List.{get_or_past}
use Rattle.std.proofs.lemmas.List.FromFn.{get_or-map-range_with_len, length-map-range_with_len, fill_by_all}
use Rattle.interaction_trees.specs.Tree.{result_of}
use Rattle.interaction_trees.specs.Outcome.{Step}
use Rattle.interaction_trees.specs.Run.{run_to_limit}
use Rattle.interaction_trees.specs.Steps.{map_outcome}
use Rattle.interaction_trees.specs.Steps as steps
use Rattle.interaction_trees.specs.Dependence as dependence
use Rattle.interaction_trees.proofs.DependenceLemmas.{same_everywhere}
use Rattle.interaction_trees.proofs.RunLemmas.{holds_after, after_mapped, run_mapped}
use Rattle.console_calls.specs.declared.cause.Cause.TheVariants.{Limit}
use Rattle.console_calls.specs.StateQuestions.{Byte, Input}
use Rattle.hostfiles.specs.Files as files
use Rattle.file_calls.specs.HostTrees.{AreSoundOwnFiles}
use Rattle.file_calls.specs.HostTrees as passing
use Rattle.file_calls.proofs.Answering.{answers_are}
use Rattle.file_calls.specs.Deletes.{own_after_change}
use Rattle.bdos.specs.SystemQuestions.{SystemQuestion, OfState, OfFiles}
use Rattle.machine.specs.Inputs.{Session}
use Rattle.machine.specs.StateView.{OwnCells, PartialState}
use Rattle.machine.specs.Session.{image_of, IsSession}
use Rattle.machine.specs.Step.{StepEnd, Went, Stopped, desk_with, next}
use Rattle.machine.specs.Machine.{Answers, session_answers, laid, cell_at, with_cell, with_cells, outcome_with, start, outcome, after, cold_run}
use Rattle.machine.specs.CellCount.{cell_count, cell_count-is}
use Rattle.machine.specs.PlainState.{PlainState, memory_of, plain_answers, with_writes, plain_outcome_with, plain_outcome, loaded_machine, plain_run}
use Rattle.machine.specs.PlainLaid.{laid_state, PlainRunIsCold, PlainMachineIsLaid}
use Rattle.machine.proofs.WrittenCellLemmas.{get_stored, stored_past}
use Rattle.machine.proofs.StepLemmas.{answered}
use Rattle.machine.proofs.HostLemmas.{result_of-asking_host}
use Rattle.machine.proofs.FitLemmas.{FitsReached, reached_fits, sound_after}
use Rattle.machine.proofs.TidyFiles.{IsTidy, tidy_after}
use Rattle.machine.proofs.WholeFiles.{loaded_is, answer_is, changed_is}

-- ---- a list with a byte for each cell

length_memory : (byte : ℕ → ℕ) → length (memory_of byte) ≡ cell_count
unfolding memory_of
length_memory byte = length-map-range_with_len byte 0 cell_count

get_memory : (byte : ℕ → ℕ) (q : ℕ) → q < 65536 → slice_index (memory_of byte) q ≡ byte q
unfolding memory_of
get_memory byte q h = get_or-map-range_with_len byte 0 cell_count q q 0 (rw cell_count-is h) (omega arith)

get_past : (byte : ℕ → ℕ) (q : ℕ) → 65536 ≤ q → slice_index (memory_of byte) q ≡ 0
unfolding memory_of
get_past byte q h = get_or_past _ q 0 (rw (length-map-range_with_len byte 0 cell_count, cell_count-is) h)

memory_is : (byte : ℕ → ℕ) (m : List ℕ) → length m ≡ cell_count → ((q : ℕ) → q < cell_count → get_or m q 0 ≡ byte q) → memory_of byte ≡ m
unfolding memory_of
memory_is byte m e same = sym (fill_by_all byte m cell_count 0 e same)

-- ---- reads and writes

-- A state's cell: the written byte, or else the session's.
abbrev cell_of : Session → OwnCells → ℕ → ℕ
cell_of s m a = unwrap_or (finmap.get m a) (image_of s a)

-- Nothing is stored past the last cell.
abbrev pub Inside : OwnCells → Type 0
Inside m = (q : ℕ) → 65536 ≤ q → finmap.get m q ≡ None

image_past : (s : Session) (q : ℕ) → IsSession s → 65536 ≤ q → image_of s q ≡ 0
image_past s q limits h = let short = limits.program in rw (low, high) refl where
  low : nat_lt q 256 ≡ false
  low = search (rules)

  high : nat_lt q (256 + length s.program) ≡ false
  high = let short = limits.program in search (rules)

same_tell : (s : Session) (m : OwnCells) (own : files.OwnFiles) → IsSession s → Inside m → AreSoundOwnFiles s.files own → IsTidy s.files own
    → (q : SystemQuestion) → plain_answers (memory_of (cell_of s m)) s.script (files.files s.files own) q ≡ laid (record { cells = m; files = own }) (session_answers s) q
same_tell s m own limits inside sound tidy (OfState (Byte a)) = elim (leb_tells 65536 a) [
  | inl over ↦ get_past (cell_of s m) a over.1 ∙ sym (answered (session_answers s) (finmap.get m a) a ∙ ap (λ (o : Option ℕ). unwrap_or o (image_of s a)) (inside a over.1) ∙ image_past s a limits over.1)
  | inr under ↦ get_memory (cell_of s m) a under.1 ∙ sym (answered (session_answers s) (finmap.get m a) a)
]
same_tell s m own limits inside sound tidy (OfState (Input k)) = refl
same_tell s m own limits inside sound tidy (OfFiles q) = answer_is s.files own tidy q ∙ sym (result_of-asking_host (session_answers s) (passing.host_tree own q) ∙ answers_are s.files own sound q)

-- The byte of a cell in a state is its byte in the plain memory.
pub cell_is : (s : Session) (st : PartialState) (a : ℕ) → a < 65536 → slice_index (laid_state s st).memory a ≡ cell_at s st a
cell_is s st a below = get_memory (cell_of s st.own.cells) a below ∙ sym (answered (session_answers s) (finmap.get st.own.cells a) a)

get_set : (m : List ℕ) (a v q : ℕ) → q < length m → get_or (slice_set m a v) q 0 ≡ cond (eqb q a) v (get_or m q 0)
get_set m a v q h = elim (eqb_tells q a) [
  | inl same ↦ rw (same.0, same.1) (get_or-set_same m a v 0 (rw (← same.1) h))
  | inr other ↦ rw other.0 (get_or-set_other m a q v 0 other.1)
]

pick : (b : Bool) (v n : ℕ) (o : Option ℕ) → unwrap_or (cond b (Some v) o) n ≡ cond b v (unwrap_or o n)
pick true v n o = refl
pick false v n o = refl

write_one : (s : Session) (m : OwnCells) (a v : ℕ) → slice_set (memory_of (cell_of s m)) a v ≡ memory_of (cell_of s (with_cell m a v))
write_one s m a v = sym (memory_is (cell_of s (with_cell m a v)) (slice_set (memory_of (cell_of s m)) a v) (length-set (memory_of (cell_of s m)) a v ∙ length_memory (cell_of s m)) (λ q h.
    let below : q < 65536 = rw cell_count-is at h in
    get_set (memory_of (cell_of s m)) a v q (rw (length_memory (cell_of s m)) h)
    ∙ ap (cond (eqb q a) v) (get_memory (cell_of s m) q below)
    ∙ sym (ap (λ (o : Option ℕ). unwrap_or o (image_of s q)) (get_stored m a v q below) ∙ pick (eqb q a) v _ (finmap.get m q))))

write_all : (s : Session) (ws : List (ℕ × ℕ)) (m : OwnCells) → with_writes (memory_of (cell_of s m)) ws ≡ memory_of (cell_of s (with_cells m ws))
write_all s [] m = refl
write_all s (w ∷ ws) m = ap (λ (l : List ℕ). with_writes l ws) (write_one s m w.0 w.1) ∙ write_all s ws (with_cell m w.0 w.1)

inside_all : (ws : List (ℕ × ℕ)) (m : OwnCells) → Inside m → Inside (with_cells m ws)
inside_all [] m h = h
inside_all (w ∷ ws) m h = inside_all ws (with_cell m w.0 w.1) (λ q over. stored_past m w.0 w.1 q over (h q over))

-- ---- a step, and a run

made_whole : (s : Session) (st : PartialState) (e : StepEnd) → IsTidy s.files st.own.files → FitsReached s.files st.own.files e → plain_outcome_with (laid_state s st) e ≡ map_outcome (laid_state s) (outcome_with st e)
made_whole s st (Went r spot bytes wrote change) tidy fits =
    λ i. Step (record {
      core = record { regs = r; desk = desk_with st.core.desk spot bytes };
      memory = write_all s wrote.cells st.own.cells i;
      files = changed_is s.files st.own.files change tidy fits i;
    })
made_whole s st (Stopped cause) tidy fits = refl

same_outcome : (s : Session) (st : PartialState) → IsSession s → Inside st.own.cells → AreSoundOwnFiles s.files st.own.files → IsTidy s.files st.own.files → plain_outcome s (laid_state s st) ≡ map_outcome (laid_state s) (outcome (session_answers s) st)
unfolding plain_outcome dependence.outcome
same_outcome s st limits inside sound tidy =
    ap (plain_outcome_with (laid_state s st)) (same_everywhere (plain_answers (memory_of (cell_of s st.own.cells)) s.script (files.files s.files st.own.files)) (laid st.own (session_answers s)) (next st.core) (same_tell s st.own.cells st.own.files limits inside sound tidy))
    ∙ made_whole s st (result_of (laid st.own (session_answers s)) (next st.core)) tidy (reached_fits s st sound)

step_inside : (st next : PartialState) (e : StepEnd) → Inside st.own.cells → outcome_with st e ≡ Step next → Inside next.own.cells
step_inside st next (Went r spot bytes wrote change) h e =
    let same : record { core = record { regs = r; desk = desk_with st.core.desk spot bytes }; own = record { cells = with_cells st.own.cells wrote.cells; files = own_after_change change st.own.files } } ≡ next = cc in
    subst (λ (x : PartialState). Inside x.own.cells) same (inside_all wrote.cells st.own.cells h)
step_inside st next (Stopped cause) h e = absurd (cc)

-- No cell past the last one was written.
after_inside : (f : Answers) (n : ℕ) (st : PartialState) → after f n ≡ Some st → Inside st.own.cells
unfolding dependence.outcome
after_inside f =
    holds_after (outcome f) start (λ (st : PartialState). Inside st.own.cells) (λ q h. finmap.get-empty nat_cmp q)
    (λ n b st at inside went. step_inside b st (result_of (laid b.own f) (next b.core)) inside went)

outcomes_laid : (s : Session) → IsSession s → (n : ℕ) (st : PartialState) → after (session_answers s) n ≡ Some st → plain_outcome s (laid_state s st) ≡ map_outcome (laid_state s) (outcome (session_answers s) st)
outcomes_laid s limits n st at = same_outcome s st limits (after_inside (session_answers s) n st at) (sound_after s n st at) (tidy_after s n st at)

loaded_is_laid : (s : Session) → loaded_machine s ≡ laid_state s start
loaded_is_laid s = λ i. record {
  core = start.core;
  memory = memory_of (λ a. unwrap_or (sym (finmap.get-empty nat_cmp a) i) (image_of s a));
  files = loaded_is s.files i;
}

same_run : PlainRunIsCold
unfolding plain_run cold_run
same_run s limits =
    ap (run_to_limit (plain_outcome s) Limit s.limit) (loaded_is_laid s)
    ∙ run_mapped (outcome (session_answers s)) (plain_outcome s) (laid_state s) start (outcomes_laid s limits) Limit s.limit

-- The law of the plain machine.
pub plain_machine_is_laid : PlainMachineIsLaid
plain_machine_is_laid = record {
  states = λ s limits n.
      ap (λ (w : PlainState). steps.after (plain_outcome s) w n) (loaded_is_laid s)
      ∙ after_mapped (outcome (session_answers s)) (plain_outcome s) (laid_state s) start (outcomes_laid s limits) n;
  outcomes = outcomes_laid;
  runs = same_run;
}
