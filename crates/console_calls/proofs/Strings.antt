-- Function 9, from its parts.
use Rattle.std.proofs.Common.{◌≡◌, ℕ, Bool, true, false, List, [], Option, Some, None, is_some, Result, Ok, Err, refl, ap, sym, subst, ◌∙◌}
use Rattle.std.specs.declared.alloc.AllocError.{AllocError}
use Rattle.interaction_trees.specs.Tree.{Return}
use Rattle.i8080.specs.Memory.{Memory, Extends, bytes}
use Rattle.i8080.specs.Reading.{Done, asked}
use Rattle.i8080.specs.Performs.{Reads}
use Rattle.i8080.specs.Registers.{word}
use Rattle.i8080.specs.Instruction.{word_at}
use Rattle.console_calls.specs.declared.served.Served.{Served}
use Rattle.console_calls.specs.declared.served.Served.TheVariants as served
use Rattle.console_calls.specs.declared.cause.Cause.TheVariants.{NoDollar}
use Rattle.console_calls.specs.StateQuestions.{StateTree, bind_reading, answers}
use Rattle.console_calls.specs.Strings.{string_at}
use Rattle.console_calls.specs.Printing.{Prints, string_in, desk_after_string}
use Rattle.console_calls.specs.ConsoleCalls.{CallEnd, at_caller, string_output, print_call}
use Rattle.console_calls.specs.PerformsCall.{Scene, PerformsCall, path_by}
use Rattle.console_calls.proofs.Carried.{along, executes, stops, fails, after_reading, after_read}
use Rattle.console_calls.proofs.Trees.{look_all-append, path-reads}

-- The end of the call, if no string was found, and if one was.
module _ (old new : Scene) (same : (j : ℕ) → new.looked j ≡ old.looked j) (to : ℕ) where
  stop_leaf : (string : Option (List ℕ)) → false ≡ is_some string → new.regs ≡ old.regs → new.desk ≡ desk_after_string old.desk string
      → PerformsCall (record { end = print_call old.regs old.desk.spot to string; cells = []; offsets = [] }) (record old { memory = new.memory }) (Ok (served.Stop NoDollar)) new
  stop_leaf None found regs desk = stops NoDollar regs refl desk same
  stop_leaf (Some string) found regs desk = cc

  went_leaf : (string : Option (List ℕ)) → true ≡ is_some string → new.regs ≡ at_caller 0 to old.regs → new.desk ≡ desk_after_string old.desk string
      → PerformsCall (record { end = print_call old.regs old.desk.spot to string; cells = []; offsets = [] }) (record old { memory = new.memory }) (Ok served.Went) new
  went_leaf None found regs desk = cc
  went_leaf (Some string) found regs desk = executes (print_call old.regs old.desk.spot to (Some string)) refl regs desk refl refl refl refl same

module _ (script : List ℕ) (old new : Scene) {m1 : Memory} {to place : ℕ} (address : Reads (word_at old.regs.sp Done) old.memory to m1) (de : place ≡ word old.regs.e old.regs.d) (same : (j : ℕ) → new.looked j ≡ old.looked j) where
  abbrev next : ℕ → Option (List ℕ) → StateTree CallEnd
  next to string = Return (print_call old.regs old.desk.spot to string)

  after_address : {result : Result Served AllocError} → PerformsCall (path_by (answers (bytes m1) script) (bind_reading (string_at 65536 place) (next to))) (record old { memory = m1 }) result new
      → PerformsCall (path_by (answers (bytes old.memory) script) (string_output old.regs old.desk.spot)) old result new
  after_address w = after_read script (word_at old.regs.sp Done) (λ to. bind_reading (string_at 65536 (word old.regs.e old.regs.d)) (next to)) to address
      (along (ap (λ a. path_by (answers (bytes m1) script) (bind_reading (string_at 65536 a) (next to))) de) w)

  module _ {found : Bool} (prints : Prints place m1 old.desk (Ok found) new.memory new.desk) where
    after_string : {s : Served} → PerformsCall (path_by (answers (bytes new.memory) script) (next to (string_in place m1))) (record old { memory = new.memory }) (Ok s) new
        → PerformsCall (path_by (answers (bytes old.memory) script) (string_output old.regs old.desk.spot)) old (Ok s) new
    after_string w = after_address (after_reading script (string_at 65536 place) (next to) (string_in place m1) refl prints.reads.looks prints.reads.own prints.reads.beneath prints.reads.lender w)

    pub string_stops : found ≡ false → new.regs ≡ old.regs → PerformsCall (path_by (answers (bytes old.memory) script) (string_output old.regs old.desk.spot)) old (Ok (served.Stop NoDollar)) new
    string_stops h regs = after_string (stop_leaf old new same to _ (sym h ∙ prints.reads.found) regs prints.desk)

    pub string_goes : found ≡ true → new.regs ≡ at_caller 0 to old.regs → PerformsCall (path_by (answers (bytes old.memory) script) (string_output old.regs old.desk.spot)) old (Ok served.Went) new
    string_goes h regs = after_string (went_leaf old new same to _ (sym h ∙ prints.reads.found) regs prints.desk)

  -- Out of memory while the string is printed.
  pub string_fails : {e : AllocError} → Prints place m1 old.desk (Err e) new.memory new.desk → new.regs ≡ old.regs
      → PerformsCall (path_by (answers (bytes old.memory) script) (string_output old.regs old.desk.spot)) old (Err e) new
  string_fails p regs = after_address (along (sym (path-reads (answers (bytes m1) script) (next to) (string_at 65536 place)))
      (fails p.reads.err_looks (subst (Extends new.memory.looks) (sym (look_all-append m1.own (asked (string_at 65536 place) (bytes m1)) [] m1.looks)) p.reads.err_bound) regs p.err_desk p.reads.own same p.reads.beneath p.reads.lender))
