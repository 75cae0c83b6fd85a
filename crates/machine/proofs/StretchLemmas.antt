-- Steps one after another, of which only the last looks at anything new.
use Rattle.std.proofs.Common.{inl, inr, ◌≡◌, ℕ, ◌+◌, ◌||◌, Bool, true, false, List, length, Option, Some, None, Ok, refl, sym, ◌∙◌, ap, subst, arith, ◌≢◌}
use Rattle.std.proofs.lemmas.Bool.Decides.{eqb_tells}
use Rattle.std.proofs.lemmas.List.{take_all}
use Rattle.std.specs.declared.alloc.AllocError.{AllocError}
use Rattle.interaction_trees.specs.Dependence as dependence
use Rattle.i8080.specs.declared.registers.Regs.{Regs}
use Rattle.console_calls.specs.declared.cause.Cause.{Cause}
use Rattle.pagemem.specs.declared.overlay.Overlay.{Overlay}
use Rattle.pagemem.specs.Overlay.{own_of, looks_of}
use Rattle.machine.specs.Inputs.{Session}
use Rattle.machine.specs.StateView.{PartialState, AllLooks, StateView}
use Rattle.std.specs.Borrow.{GName}
use Rattle.std.specs.declared.result.Result.{Result}
use Rattle.i8080.specs.declared.outcome.Did.{Did}
use Rattle.i8080.specs.Performs.{Performs}
use Rattle.i8080.specs.Instruction.{instruction}
use Rattle.i8080.specs.Memory as memory
use Rattle.machine.specs.Session.{image_of}
use Rattle.machine.proofs.StepLemmas.{Takes}
use Rattle.machine.specs.Step.{next}
use Rattle.first_looks.specs.declared.question.Question.{Question}
use Rattle.first_looks.specs.Questions.{is_in}
use Rattle.machine.specs.Machine.{Answers, session_answers, session_tree, outcome_with, start, after, outcome, looks, looks_at, is_looked_at, AddsLooks, KeepsLooks}
use Rattle.machine.specs.WrittenCells.{DeskAndFiles, state_with}
use Rattle.machine.specs.TakesStep.{memory_over_image, looks_in, TakesStep}
use Rattle.machine.specs.Stretch.{LooksAtNothingNew}
use Rattle.interaction_trees.proofs.RunLemmas.{after_step}

-- The looks at the state that was reached.
looks_here : (f : Answers) (n : ℕ) (st : PartialState) → after f n ≡ Some st → looks f n ≡ looks_at f st
unfolding dependence.looks
looks_here f n st at = ap (dependence.looks_if_any session_tree (λ (st : PartialState). st.own) (λ (st : PartialState). next st.core) outcome_with start f) at

or_second : (a b c : Bool) → c ≡ (a || b) → b ≡ true → c ≡ true
or_second true b c e h = e
or_second false b c e h = e ∙ h

-- One more step that looks at nothing new.
nothing_new_more : (f : Answers) (looked : AllLooks) (from n : ℕ) → LooksAtNothingNew f looked from n → ((q : Question) → is_in q (looks f n) ≡ true → is_looked_at looked q ≡ true) → LooksAtNothingNew f looked from (n + 1)
nothing_new_more f looked from n quiet here i low high q h = elim (eqb_tells i n) [
  | inl same ↦ here q (subst (λ (k : ℕ). is_in q (looks f k) ≡ true) same.1 h)
  | inr other ↦ quiet i low (let apart : i ≢ n = other.1 in omega arith) q h
]

-- The looks after a step.
pub looked_after : (s : Session) (n : ℕ) (old new : StateView) {stop : Option Cause} → after (session_answers s) n ≡ Some old.state → TakesStep s old (Ok stop) new
    → AddsLooks old.looked (looks (session_answers s) n) new.looked
looked_after s n old new at w q = w.looked q ∙ ap (λ (qs : List Question). is_looked_at old.looked q || is_in q qs) (sym (looks_here (session_answers s) n old.state at))

-- ---- a run from a step

-- If no cell was added, the looks are the same.
pub same_cells : (old new : List ℕ) → memory.Extends old new → length new ≡ length old → new ≡ old
same_cells old new e count = sym (take_all (length old) new (omega arith)) ∙ e

same_looks : (o o' : Overlay) (d : DeskAndFiles) → KeepsLooks (looks_in o d) (looks_in o' d) → length (looks_of o') ≡ length (looks_of o) → looks_of o' ≡ looks_of o
same_looks o o' d e count = same_cells (looks_of o) (looks_of o') e.cells count

module _ (s : Session) (from n : ℕ) (r r' : Regs) (o o' : Overlay) (d : DeskAndFiles) (looked : AllLooks) (same : looks_in o d ≡ looked)
    (at : after (session_answers s) n ≡ Some (state_with r d (own_of o))) (w : Takes s r d o (Ok None) r' d o') where
  pub goes_to : after (session_answers s) (n + 1) ≡ Some (state_with r' d (own_of o'))
  goes_to = after_step (outcome (session_answers s)) start n (state_with r d (own_of o)) _ at w.outcome

  pub nothing_new : length (looks_of o') ≡ length (looks_of o) → LooksAtNothingNew (session_answers s) looked from n → LooksAtNothingNew (session_answers s) looked from (n + 1)
  nothing_new count quiet = nothing_new_more (session_answers s) looked from n quiet (λ q h.
      ap (λ (l : AllLooks). is_looked_at l q) (sym same)
      ∙ ap (λ (c : List ℕ). is_looked_at (record { cells = c; offsets = d.offsets; files = d.asks }) q) (sym (same_looks o o' d w.extends count))
      ∙ or_second (is_looked_at (looks_in o d) q) (is_in q (looks_at (session_answers s) (state_with r d (own_of o)))) (is_looked_at (looks_in o' d) q) (w.looked q)
      (subst (λ (qs : List Question). is_in q qs ≡ true) (looks_here (session_answers s) n (state_with r d (own_of o)) at) h))

-- ---- an instruction over a view

module _ (s : Session) (r r' : Regs) (o o' : Overlay) (beneath beneath' : ℕ → ℕ) (lender lender' : Option GName) (image : beneath ≡ image_of s) where
  abbrev Viewed : (ℕ → Bool) → Result Did AllocError → Type 0
  Viewed ready result = Performs (instruction r) r (record { own = own_of o; beneath = beneath; looks = looks_of o; lender = lender }) ready result r' (record { own = own_of o'; beneath = beneath'; looks = looks_of o'; lender = lender' })

  -- The instruction is one over the session's image.
  pub seen_through : {ready : ℕ → Bool} (result : Result Did AllocError) → Viewed ready result → Performs (instruction r) r (memory_over_image s o) ready result r' (memory_over_image s o')
  seen_through {ready} result p =
      let w = subst (λ (b : ℕ → ℕ). Performs (instruction r) r (record { own = own_of o; beneath = b; looks = looks_of o; lender = lender }) ready result r' (record { own = own_of o'; beneath = beneath'; looks = looks_of o'; lender = lender' })) image p in
      record {
        did = w.did;
        regs = w.regs;
        own = w.own;
        looks = w.looks;
        err_unready = w.err_unready;
        err_regs = w.err_regs;
        err_own = w.err_own;
        beneath = refl;
        lender = refl;
      }
