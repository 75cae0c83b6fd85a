-- What a call over a copy writes and reads is what it writes and reads on the plain machine.
use Rattle.std.proofs.Common.{◌≡◌, ℕ, ◌||◌, ◌==◌, Bool, true, false, cond, List, [], ◌∷◌, ◌++◌, map, Option, Some, None, Ok, is_some, refl, sym, ◌∙◌, ap, inl, inr, eqb-true}
use Rattle.std.proofs.Math.Bool.{or_assoc, or-false}
use Rattle.std.proofs.lemmas.Bool.Decides.{eqb_tells}
use Rattle.std.specs.Prelude.{slice_index}
use Rattle.interaction_trees.specs.Tree.{AgreeOn, map_result, questions_of, result_of}
use Rattle.interaction_trees.proofs.DependenceLemmas.{asked-returning, result_of-returning, same_asked, same_everywhere}
use Rattle.i8080.specs.declared.registers.Regs.{Regs}
use Rattle.i8080.specs.Memory.{Memory, Own, is_among, look, look_all, over, write, write_all}
use Rattle.i8080.proofs.LookLemmas.{is_among-append}
use Rattle.console_calls.specs.declared.served.Served.{Served}
use Rattle.console_calls.specs.ConsoleCalls as calls
use Rattle.console_calls.specs.PerformsCall.{own_after, scene}
use Rattle.console_calls.specs.ScriptLooks.{DeskLooks}
use Rattle.console_calls.specs.StateQuestions.{addresses}
use Rattle.file_calls.specs.TableView.{TableView}
use Rattle.bdos.specs.FileCalls.{SystemEnd}
use Rattle.bdos.specs.PerformsSystemCall.{MakesSystemCall, state_questions, system_answers, system_path_by}
use Rattle.bdos.specs.SystemCalls.{call}
use Rattle.bdos.specs.SystemQuestions.{OfFiles, OfState, SystemAnswers, SystemQuestion, SystemTree}
use Rattle.machine.specs.Inputs.{Core}
use Rattle.machine.specs.Machine.{after, session_answers}
use Rattle.machine.specs.PlainFiles.{answers_of}
use Rattle.machine.specs.PlainState.{PlainState}
use Rattle.machine.specs.Runs.{RunView, state_of}
use Rattle.machine.specs.Session.{IsSession}
use Rattle.machine.specs.StateView.{PartialState}
use Rattle.machine.specs.Step.{bdos_entry, is_call, next, script_limit, step_end_of_call}
use Rattle.machine.proofs.PlainViews.{state_is}
use Rattle.machine.proofs.TidyFiles.{tidy_after}
use Rattle.machine.proofs.WholeFiles.{answer_is}
use Rattle.machine.specs.Accesses.{NotesStep, answers_in, cells_of_end}

-- Nothing is written.
abbrev pub blank : Own
blank = λ _. None

-- ---- the written cells, and the cells that were looked at

write_one : (own : Own) (a x v : ℕ) → is_some (write own x v a) ≡ (is_some (own a) || a == x)
unfolding write
write_one own a x v = pick (a == x) (own a) where
  pick : (b : Bool) (o : Option ℕ) → is_some (cond b (Some v) o) ≡ (is_some o || b)
  pick true None = refl
  pick true (Some u) = refl
  pick false None = refl
  pick false (Some u) = refl

written_among : (own : Own) (ws : List (ℕ × ℕ)) (a : ℕ) → is_some (write_all own ws a) ≡ (is_some (own a) || is_among a (map (λ w. w.0) ws))
written_among own [] a = sym (or-false (is_some (own a)))
written_among own (w ∷ ws) a =
    written_among (write own w.0 w.1) ws a ∙ ap (λ b. b || is_among a (map (λ w. w.0) ws)) (write_one own a w.0 w.1) ∙ or_assoc (is_some (own a)) (a == w.0) _

look_one : (looks : List ℕ) (a x : ℕ) → is_among a (look blank looks x) ≡ (is_among a looks || a == x)
unfolding look
look_one looks a x = pick (is_among x looks) refl where
  pick : (b : Bool) → is_among x looks ≡ b → is_among a (cond b looks (looks ++ x ∷ [])) ≡ (is_among a looks || a == x)
  pick true e = elim (eqb_tells a x) [
    | inl same ↦ rw (same.0, same.1, e) refl
    | inr other ↦ rw other.0 (sym (or-false (is_among a looks)))
  ]
  pick false e = is_among-append a looks (x ∷ []) ∙ ap (λ b. is_among a looks || b) (or-false (a == x))

looked_among : (cells looks : List ℕ) (a : ℕ) → is_among a (look_all blank cells looks) ≡ (is_among a looks || is_among a cells)
looked_among [] looks a = sym (or-false (is_among a looks))
looked_among (x ∷ cells) looks a =
    looked_among cells (look blank looks x) a ∙ ap (λ b. b || is_among a cells) (look_one looks a x) ∙ or_assoc (is_among a looks) (a == x) _

written_at_end : (e : SystemEnd) (a : ℕ) → is_some (own_after e.0 blank a) ≡ is_among a (cells_of_end (step_end_of_call e))
written_at_end (calls.Completed r spot bytes wrote, change) a = written_among blank wrote.cells a
written_at_end (calls.Stopped cause, change) a = refl

-- ---- the call on the plain machine

at_call : (c : Core) → is_call c ≡ true → next c ≡ map_result step_end_of_call (call script_limit c.regs c.desk.spot)
unfolding next
at_call c pc = let e : c.regs.pc ≡ bdos_entry = eqb-true _ _ pc in rw e refl

agree_everywhere : (f g : SystemAnswers) → ((q : SystemQuestion) → f q ≡ g q) → (qs : List SystemQuestion) → AgreeOn qs f g
agree_everywhere f g h [] = tt
agree_everywhere f g h (q ∷ qs) = (h q, agree_everywhere f g h qs)

-- A call of the run's step, over a memory with the same bytes, with nothing written and nothing looked at.
pub record IsTrial (r : RunView) (st : PartialState) (g : Regs) (m : Memory) (d : DeskLooks) (l : List ℕ) (t : TableView) : Type 0 where
  pub own : m.own ≡ blank
  pub beneath : m.beneath ≡ slice_index (state_of r).memory
  pub looks : m.looks ≡ []
  pub regs : g ≡ st.core.regs
  pub spot : d.desk.spot ≡ st.core.desk.spot
  pub script : l ≡ r.session.script
  pub host : t.host ≡ r.session.files
  pub files : t.own ≡ st.own.files

module _ (r : RunView) (st : PartialState) (is : IsSession r.session) (at : after (session_answers r.session) r.step ≡ Some st) (pc : is_call (state_of r).core ≡ true) where
  abbrev w : PlainState
  w = state_of r

  abbrev plain : SystemAnswers
  plain = answers_in r.session w

  abbrev parts : SystemAnswers
  parts = system_answers (slice_index w.memory) r.session.script r.session.files st.own.files

  abbrev tree : SystemTree SystemEnd
  tree = call script_limit w.core.regs w.core.desk.spot

  same_answer : (q : SystemQuestion) → plain q ≡ parts q
  same_answer (OfState q) = refl
  same_answer (OfFiles q) = ap (λ (x : PlainState). answers_of x.files q) (state_is r st is at) ∙ answer_is r.session.files st.own.files (tidy_after r.session r.step st at) q

  end_is : result_of plain (next w.core) ≡ step_end_of_call (result_of parts tree)
  end_is = ap (result_of plain) (at_call w.core pc) ∙ result_of-returning plain step_end_of_call tree ∙ ap step_end_of_call (same_everywhere plain parts tree same_answer)

  asked_is : questions_of plain (next w.core) ≡ questions_of parts tree
  asked_is = ap (questions_of plain) (at_call w.core pc) ∙ asked-returning plain step_end_of_call tree ∙ same_asked parts plain tree (agree_everywhere parts plain (λ q. sym (same_answer q)) _)

  pub notes : (d d' : DeskLooks) {g g' : Regs} {m m' : Memory} {l : List ℕ} {t t' : TableView} (served : Served)
      → IsTrial r st g m d l t → MakesSystemCall (call script_limit) l (scene g m d) t (Ok served) (scene g' m' d') t' → NotesStep r.session w m'.own m'.looks
  notes d d' {g = g} {m = m} {m' = m'} {l = l} {t = t} served i p =
      let core : w.core ≡ st.core = ap (λ (x : PlainState). x.core) (state_is r st is at) in
      let path : system_path_by (system_answers (over m.own m.beneath) l t.host t.own) (call script_limit g d.desk.spot) ≡ system_path_by parts tree
      = λ j. system_path_by (system_answers (over (i.own j) (i.beneath j)) (i.script j) (i.host j) (i.files j))
      (call script_limit ((i.regs ∙ ap (λ (c : Core). c.regs) (sym core)) j) ((i.spot ∙ ap (λ (c : Core). c.desk.spot) (sym core)) j)) in
      record {
        written = λ a. ap (λ (own : Own). is_some (own a)) (p.call.executed.own ∙ (λ j. own_after (path j).end.0 (i.own j)))
            ∙ written_at_end (result_of parts tree) a ∙ sym (ap (λ e. is_among a (cells_of_end e)) end_is);
        looked = λ a. ap (is_among a) (p.call.executed.looks ∙ (λ j. look_all (i.own j) (path j).cells (i.looks j)))
            ∙ looked_among (system_path_by parts tree).cells [] a ∙ sym (ap (λ qs. is_among a (addresses (state_questions qs))) asked_is);
      }
