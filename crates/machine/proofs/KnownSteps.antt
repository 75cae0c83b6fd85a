-- Instructions over known cells are steps that look at nothing new.
use Rattle.std.proofs.Common.{inl, inr, ◌≡◌, ◌≢◌, false, ◌<◌, ℕ, zero, suc, ◌+◌, true, List, length, Some, None, Ok, sym, ◌∙◌, ap, subst, arith}
use Rattle.std.proofs.lemmas.Bool.{ne_eqb}
use Rattle.std.proofs.lemmas.Bool.Decides.{eqb_tells}
use Rattle.i8080.specs.declared.registers.Regs.{Regs}
use Rattle.i8080.specs.declared.outcome.Did.TheVariants as did
use Rattle.i8080.specs.Memory.{Memory}
use Rattle.known_run.specs.KnownRun.{RunsKnown}
use Rattle.pagemem.specs.declared.overlay.Overlay.{Overlay}
use Rattle.pagemem.specs.Overlay.{own_of, looks_of, beneath_of}
use Rattle.machine.specs.Inputs.{Session}
use Rattle.machine.specs.Session.{image_of}
use Rattle.machine.specs.StateView.{AllLooks, PartialState}
use Rattle.machine.specs.Machine.{session_answers, after}
use Rattle.machine.specs.WrittenCells.{DeskAndFiles, state_with}
use Rattle.machine.specs.TakesStep.{looks_in, view_with}
use Rattle.machine.specs.Step.{bdos_entry, is_call, system_area}
use Rattle.machine.specs.Stretch.{CallsNothing, LooksAtNothingNew, RunsQuietly}
use Rattle.machine.proofs.FitLemmas.{sound_after}
use Rattle.machine.proofs.StepLemmas.{Takes, instructed}
use Rattle.machine.proofs.StretchLemmas.{seen_through, goes_to, nothing_new}

-- The known cells of an overlay, as memory.
abbrev pub known_memory : Overlay → Memory
known_memory o = record { own = own_of o; beneath = beneath_of o; looks = looks_of o; lender = None }

abbrev pub RunsOver : ℕ → Regs → Overlay → Regs → Overlay → Type 0
RunsOver = RunsKnown known_memory system_area

same_image : (n : ℕ) (r : Regs) (o : Overlay) (r' : Regs) (o' : Overlay) → RunsOver n r o r' o' → beneath_of o' ≡ beneath_of o
same_image zero r o r' o' ran = ap (λ (m : Memory). m.beneath) ran.1
same_image (suc n) r o r' o' ran = (ran.4.performs (λ _. true)).beneath ∙ same_image n r o ran.0 ran.1 ran.2

same_looks : (n : ℕ) (r : Regs) (o : Overlay) (r' : Regs) (o' : Overlay) → RunsOver n r o r' o' → looks_of o' ≡ looks_of o
same_looks zero r o r' o' ran = ap (λ (m : Memory). m.looks) ran.1
same_looks (suc n) r o r' o' ran = ran.4.quiet ∙ same_looks n r o ran.0 ran.1 ran.2

no_more : (from : ℕ) → from + 0 ≡ from
no_more from = omega arith

one_more : (from n : ℕ) → from + n + 1 ≡ from + suc n
one_more from n = omega arith

abbrev with_cells : DeskAndFiles → List ℕ → AllLooks
with_cells d cells = record { cells = cells; offsets = d.offsets; files = d.asks }

no_call_here : (s : Session) (n : ℕ) (here st : PartialState) → after (session_answers s) n ≡ Some here → here.core.regs.pc < system_area → after (session_answers s) n ≡ Some st
    → is_call st.core ≡ false
no_call_here s n here st at low there =
    let same : Some here ≡ Some st = sym at ∙ there in
    let equal : here ≡ st = cc in
    ap (λ (x : PartialState). is_call x.core) (sym equal) ∙ ne_eqb here.core.regs.pc bdos_entry (omega (arith, low))

-- One more step below the system area.
no_more_calls : (s : Session) (from n : ℕ) (here : PartialState) → after (session_answers s) n ≡ Some here → here.core.regs.pc < system_area
    → CallsNothing (session_answers s) from n → CallsNothing (session_answers s) from (n + 1)
no_more_calls s from n here at low before i st above below there = elim (eqb_tells i n) [
  | inl same ↦ no_call_here s n here st at low (subst (λ (k : ℕ). after (session_answers s) k ≡ Some st) same.1 there)
  | inr other ↦ before i st above (let apart : i ≢ n = other.1 in omega arith) there
]

module _ (s : Session) (d : DeskAndFiles) where
  leads : (n : ℕ) (r : Regs) (o : Overlay) (r' : Regs) (o' : Overlay) → RunsOver n r o r' o' → beneath_of o ≡ image_of s → (from : ℕ) → after (session_answers s) from ≡ Some (state_with r d (own_of o))
      → (after (session_answers s) (from + n) ≡ Some (state_with r' d (own_of o'))) × LooksAtNothingNew (session_answers s) (looks_in o d) from (from + n) × CallsNothing (session_answers s) from (from + n)
  leads zero r o r' o' ran image from at = (
    ap (after (session_answers s)) (no_more from) ∙ at ∙ sym (ap (λ (x : Regs). Some (state_with x d (own_of o'))) ran.0 ∙ ap (λ (m : Memory). Some (state_with r d m.own)) ran.1),
    λ i low high. absurd (omega (arith, low, high)),
    λ i st low high. absurd (omega (arith, low, high)),
  )
  leads (suc n) r o r' o' ran image from at =
      let x = ran.0 in
      let y = ran.1 in
      let before = leads n r o x y ran.2 image from at in
      let here : beneath_of y ≡ image_of s = same_image n r o x y ran.2 ∙ image in
      let took : Takes s x d y (Ok None) r' d o' =
      instructed s x r' d y o' (sound_after s (from + n) _ before.0) ran.3 did.Went (seen_through s x r' y o' (beneath_of y) (beneath_of o') None None here {ready = λ _. true} (Ok did.Went) (ran.4.performs (λ _. true))) in
      let same : looks_in y d ≡ looks_in o d = ap (with_cells d) (same_looks n r o x y ran.2) in (
        ap (after (session_answers s)) (sym (one_more from n)) ∙ goes_to s from (from + n) x r' y o' d (looks_in o d) same before.0 took,
        subst (LooksAtNothingNew (session_answers s) (looks_in o d) from) (one_more from n)
            (nothing_new s from (from + n) x r' y o' d (looks_in o d) same before.0 took (ap length ran.4.quiet) before.1),
        subst (CallsNothing (session_answers s) from) (one_more from n) (no_more_calls s from (from + n) _ before.0 ran.3 before.2),
      )

pub runs_quietly : (d : DeskAndFiles) (n : ℕ) (r : Regs) (o : Overlay) (r' : Regs) (o' : Overlay) → RunsOver n r o r' o' → RunsQuietly n (view_with r d o) (view_with r' d o')
runs_quietly d n r o r' o' ran = record {
  goes = λ s from start. let led = leads s d n r o r' o' ran start.bound from start.at in record { at = led.0; quiet = led.1; calls = led.2 };
  looked = ap (with_cells d) (same_looks n r o r' o' ran);
  beneath = same_image n r o r' o' ran;
}
