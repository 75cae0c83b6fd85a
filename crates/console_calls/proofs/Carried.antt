-- The effect of a call, from the effects of its parts.
use Rattle.std.proofs.Common.{◌≡◌, ℕ, Bool, ◌||◌, List, [], ◌++◌, Result, Ok, Err, refl, sym, ap, subst, ◌∙◌}
use Rattle.std.proofs.Math.Bool.{or_assoc, or-false}
use Rattle.std.proofs.lemmas.List.{append-nil}
use Rattle.std.specs.declared.alloc.AllocError.{AllocError}
use Rattle.i8080.specs.Memory.{Memory, Own, Looks, Extends, is_among, bytes, look_all}
use Rattle.i8080.specs.Reading.{Reading, end_of, asked}
use Rattle.i8080.specs.Performs.{Reads, looks_after}
use Rattle.i8080.proofs.LookLemmas.{extends_past, is_among-append}
use Rattle.console_calls.specs.declared.served.Served.{Served}
use Rattle.console_calls.specs.declared.served.Served.TheVariants as served
use Rattle.console_calls.specs.declared.cause.Cause.{Cause}
use Rattle.console_calls.specs.declared.desk.Spot.{Spot}
use Rattle.console_calls.specs.Desk.{Desk}
use Rattle.console_calls.specs.StateQuestions.{StateAnswers, StateTree, bind_reading, answers}
use Rattle.console_calls.specs.ConsoleCalls.{CallEnd, Stopped}
use Rattle.console_calls.specs.PerformsCall.{Scene, CallPath, PerformsCall, path_by, served_of, regs_after, desk_after, own_after}
use Rattle.console_calls.proofs.Scanning.{same_bytes}
use Rattle.console_calls.proofs.Trees.{look_all-append, path_after, path-reads}

module _ {old new : Scene} {result : Result Served AllocError} where
  -- An equal path.
  pub along : {p q : CallPath} → p ≡ q → PerformsCall p old result new → PerformsCall q old result new
  along e w = subst (λ (p : CallPath). PerformsCall p old result new) e w

-- A desk to which nothing was sent.
pub unsent : {d' : Desk} (spot : Spot) (d : Desk) → d' ≡ record { spot = spot; text = d.text } → d' ≡ record { spot = spot; text = d.text ++ [] }
unsent spot d e = e ∙ ap (λ text. record { spot = spot; text = text }) (sym (append-nil d.text))

module _ {old new : Scene} {s : Served} where
  -- A call that asks for nothing more, and is executed.
  pub executes : (end : CallEnd) → s ≡ served_of end → new.regs ≡ regs_after end old.regs → new.desk ≡ desk_after end old.desk → new.memory.own ≡ own_after end old.memory.own
      → new.memory.looks ≡ old.memory.looks → new.memory.beneath ≡ old.memory.beneath → new.memory.lender ≡ old.memory.lender → ((j : ℕ) → new.looked j ≡ old.looked j)
      → PerformsCall (record { end = end; cells = []; offsets = [] }) old (Ok s) new
  executes end served regs desk own looks beneath lender same = record {
    served = served;
    executed = record { regs = regs; desk = desk; own = own; looks = looks; looked = λ j. same j ∙ sym (or-false (old.looked j)) };
    failed = tt;
    beneath = beneath;
    lender = lender;
  }

module _ {old new : Scene} where
  -- A call that stops.
  pub stops : (cause : Cause) → new.regs ≡ old.regs → new.memory ≡ old.memory → new.desk ≡ old.desk → ((j : ℕ) → new.looked j ≡ old.looked j)
      → PerformsCall (record { end = Stopped cause; cells = []; offsets = [] }) old (Ok (served.Stop cause)) new
  stops cause regs memory desk same =
      executes (Stopped cause) refl regs desk (ap (λ (m : Memory). m.own) memory) (ap (λ (m : Memory). m.looks) memory) (ap (λ (m : Memory). m.beneath) memory) (ap (λ (m : Memory). m.lender) memory) same

module _ {old new : Scene} {e : AllocError} {p : CallPath} where
  -- A call that fails.
  pub fails : Extends old.memory.looks new.memory.looks → Extends new.memory.looks (look_all old.memory.own p.cells old.memory.looks) → new.regs ≡ old.regs → new.desk ≡ old.desk → new.memory.own ≡ old.memory.own
      → ((j : ℕ) → new.looked j ≡ old.looked j) → new.memory.beneath ≡ old.memory.beneath → new.memory.lender ≡ old.memory.lender → PerformsCall p old (Err e) new
  fails extends bound regs desk own same beneath lender =
      record { served = tt; executed = tt; failed = record { regs = regs; desk = desk; own = own; looked = same; looks = extends; bound = bound }; beneath = beneath; lender = lender }

-- The looks of some reads, and of the rest.
looks_past : (own own1 : Own) (first rest : List ℕ) (looks looks1 : Looks) → looks1 ≡ look_all own first looks → own1 ≡ own → look_all own1 rest looks1 ≡ look_all own (first ++ rest) looks
looks_past own own1 first rest looks looks1 e same = ap (λ (o : Own). look_all o rest looks1) same ∙ ap (look_all own rest) e ∙ sym (look_all-append own first rest looks)

module _ {old new : Scene} {p : CallPath} {m1 : Memory} (first : List ℕ) (looks : m1.looks ≡ look_all old.memory.own first old.memory.looks) (own : m1.own ≡ old.memory.own) (beneath : m1.beneath ≡ old.memory.beneath) (lender : m1.lender ≡ old.memory.lender) where
  -- Cells are read first.
  pub after_cells : (result : Result Served AllocError) → PerformsCall p (record old { memory = m1 }) result new → PerformsCall (path_after first [] p) old result new
  after_cells (Ok s) w = record {
    served = w.served;
    executed = record { regs = w.executed.regs; desk = w.executed.desk; own = w.executed.own ∙ ap (own_after p.end) own; looks = w.executed.looks ∙ looks_past old.memory.own m1.own first p.cells old.memory.looks m1.looks looks own; looked = w.executed.looked };
    failed = tt;
    beneath = w.beneath ∙ beneath;
    lender = w.lender ∙ lender;
  }
  after_cells (Err e) w = fails (extends_past old.memory.own first old.memory.looks m1.looks new.memory.looks looks w.failed.looks) (subst (Extends new.memory.looks) (looks_past old.memory.own m1.own first p.cells old.memory.looks m1.looks looks own) w.failed.bound)
      w.failed.regs w.failed.desk (w.failed.own ∙ own) w.failed.looked (w.beneath ∙ beneath) (w.lender ∙ lender)

module _ (script : List ℕ) {old new : Scene} {m1 : Memory} {result : Result Served AllocError} where
  -- A reading, and what follows its end.
  pub after_reading : {E : Type 0} (t : Reading E) (k : E → StateTree CallEnd) (e : E) → e ≡ end_of t (bytes old.memory) → m1.looks ≡ looks_after t old.memory
      → m1.own ≡ old.memory.own → m1.beneath ≡ old.memory.beneath → m1.lender ≡ old.memory.lender
      → PerformsCall (path_by (answers (bytes m1) script) (k e)) (record old { memory = m1 }) result new → PerformsCall (path_by (answers (bytes old.memory) script) (bind_reading t k)) old result new
  after_reading t k e value looks own beneath lender w =
      let f : StateAnswers = answers (bytes old.memory) script in
      let rest : path_by (answers (bytes m1) script) (k e) ≡ path_by f (k (end_of t (bytes old.memory))) =
      ap (λ (b : ℕ → ℕ). path_by (answers b script) (k e)) (same_bytes old.memory m1 own beneath) ∙ ap (λ x. path_by f (k x)) value in
      along (sym (path-reads f k t)) (after_cells (asked t (bytes old.memory)) looks own beneath lender result (along rest w))

  pub after_read : (t : Reading ℕ) (k : ℕ → StateTree CallEnd) (e : ℕ) → Reads t old.memory e m1
      → PerformsCall (path_by (answers (bytes m1) script) (k e)) (record old { memory = m1 }) result new → PerformsCall (path_by (answers (bytes old.memory) script) (bind_reading t k)) old result new
  after_read t k e h w = after_reading t k e h.value h.looks h.own h.beneath h.lender w

module _ {old new : Scene} {p : CallPath} where
  -- Offsets of the script are asked for first.
  pub after_offsets : {s : Served} (first : List ℕ) (ahead : ℕ → Bool) → ((j : ℕ) → is_among j first ≡ ahead j) → PerformsCall p (record old { looked = λ j. old.looked j || ahead j }) (Ok s) new
      → PerformsCall (path_after [] first p) old (Ok s) new
  after_offsets first ahead among w = record {
    served = w.served;
    executed = record {
      regs = w.executed.regs;
      desk = w.executed.desk;
      own = w.executed.own;
      looks = w.executed.looks;
      looked = λ j. w.executed.looked j ∙ or_assoc (old.looked j) (ahead j) _ ∙ ap (λ b. old.looked j || (b || is_among j p.offsets)) (sym (among j)) ∙ ap (λ b. old.looked j || b) (sym (is_among-append j first p.offsets));
    };
    failed = tt;
    beneath = w.beneath;
    lender = w.lender;
  }

  pub fails_after_offsets : {e : AllocError} (first : List ℕ) → PerformsCall p old (Err e) new → PerformsCall (path_after [] first p) old (Err e) new
  fails_after_offsets first w = record { served = tt; executed = tt; failed = w.failed; beneath = w.beneath; lender = w.lender }
