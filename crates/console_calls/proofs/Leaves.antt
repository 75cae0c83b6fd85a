-- The calls that complete, and the calls of the console.
use Rattle.std.proofs.Common.{◌≡◌, ℕ, ◌+◌, ◌||◌, ◌==◌, ◌++◌, false, List, [], ◌∷◌, Option, Some, None, is_some, Ok, refl, ap, ◌∙◌, arith, if◌then◌else◌, slice_get}
use Rattle.std.proofs.lemmas.Bool.Decides.{nat_tests}
use Rattle.interaction_trees.specs.Tree.{Return, Query}
use Rattle.i8080.specs.Memory.{Memory, bytes, write_all}
use Rattle.i8080.specs.Reading.{Done}
use Rattle.i8080.specs.Instruction.{word_at}
use Rattle.i8080.specs.Performs.{Reads}
use Rattle.console_calls.specs.declared.desk.Spot.{Spot}
use Rattle.console_calls.specs.declared.served.Served.{Served}
use Rattle.console_calls.specs.declared.served.Served.TheVariants as served
use Rattle.console_calls.specs.declared.cause.Cause.TheVariants.{ConsoleExhausted}
use Rattle.console_calls.specs.Desk.{echoed_byte}
use Rattle.console_calls.specs.ScriptLooks.{is_ahead}
use Rattle.console_calls.specs.StateQuestions.{Input, StateTree, answers}
use Rattle.console_calls.specs.ConsoleCalls.{CallEnd, CallWrites, Completed, at_caller, completion, input_call, direct_input_call, direct_input, console_input, console_status, no_writes}
use Rattle.console_calls.specs.PerformsCall.{Scene, PerformsCall, path_by}
use Rattle.console_calls.proofs.Carried.{along, unsent, executes, stops, after_read, after_offsets}

module _ (script : List ℕ) {old new : Scene} where
  -- A call that read the return address and returned to its caller with a value.
  pub returns_with : {m1 : Memory} {to : ℕ} (value : ℕ) (spot : Spot) (sent : List ℕ) (written : CallWrites)
      → Reads (word_at old.regs.sp Done) old.memory to m1 → new.regs ≡ at_caller value to old.regs → new.desk ≡ record { spot = spot; text = old.desk.text ++ sent }
      → new.memory.own ≡ write_all m1.own written.cells → new.memory.looks ≡ m1.looks → new.memory.beneath ≡ m1.beneath → new.memory.lender ≡ m1.lender → ((j : ℕ) → new.looked j ≡ old.looked j)
      → PerformsCall (path_by (answers (bytes old.memory) script) (completion value old.regs spot sent written)) old (Ok served.Went) new
  returns_with {to = to} value spot sent written address back desk own looks beneath lender same =
      after_read script (word_at old.regs.sp Done) (λ to. Return (Completed (at_caller value to old.regs) spot sent written)) to address
      (executes (Completed (at_caller value to old.regs) spot sent written) refl back desk own looks beneath lender same)

one_ahead : (cursor j : ℕ) → (j == cursor || false) ≡ is_ahead cursor 1 j
one_ahead cursor j = grind (arith, nat_tests)

-- One more offset of the script was looked at.
abbrev LooksNext : Scene → Scene → Type 0
LooksNext old new = (j : ℕ) → new.looked j ≡ (old.looked j || is_ahead old.desk.spot.cursor 1 j)

module _ (script : List ℕ) {old new : Scene} where
  -- The script byte at the cursor, and what follows it.
  after_input : {s : Served} (next : Option ℕ → StateTree CallEnd) (byte : Option ℕ) → byte ≡ slice_get script old.desk.spot.cursor
      → PerformsCall (path_by (answers (bytes old.memory) script) (next byte)) (record old { looked = λ j. old.looked j || is_ahead old.desk.spot.cursor 1 j }) (Ok s) new
      → PerformsCall (path_by (answers (bytes old.memory) script) (Query (Input old.desk.spot.cursor) next)) old (Ok s) new
  after_input next byte e w = after_offsets (old.desk.spot.cursor ∷ []) (is_ahead old.desk.spot.cursor 1) (one_ahead old.desk.spot.cursor) (along (ap (λ x. path_by (answers (bytes old.memory) script) (next x)) e) w)

  -- Function 1, if no byte is left.
  pub input_ends : LooksNext old new → None ≡ slice_get script old.desk.spot.cursor → new.regs ≡ old.regs → new.memory ≡ old.memory → new.desk ≡ old.desk
      → PerformsCall (path_by (answers (bytes old.memory) script) (console_input old.regs old.desk.spot)) old (Ok (served.Stop ConsoleExhausted)) new
  input_ends looked e regs memory desk = after_input (input_call old.regs old.desk.spot) None e (stops ConsoleExhausted regs memory desk looked)

  module _ {to : ℕ} (looked : LooksNext old new) (address : Reads (word_at old.regs.sp Done) old.memory to new.memory) where
    -- Function 1, if a byte is left.
    pub input_goes : (byte : ℕ) → Some byte ≡ slice_get script old.desk.spot.cursor → new.regs ≡ at_caller byte to old.regs
        → new.desk ≡ record { spot = record old.desk.spot { cursor = old.desk.spot.cursor + 1; column = (echoed_byte old.desk.spot.column byte).column }; text = old.desk.text ++ (echoed_byte old.desk.spot.column byte).bytes }
        → PerformsCall (path_by (answers (bytes old.memory) script) (console_input old.regs old.desk.spot)) old (Ok served.Went) new
    input_goes byte e back desk = after_input (input_call old.regs old.desk.spot) (Some byte) e (returns_with script byte _ _ no_writes address back desk refl refl refl refl looked)

    -- Function 11.
    pub status_goes : {value : ℕ} → value ≡ (if is_some (slice_get script old.desk.spot.cursor) then 0xff else 0) → new.regs ≡ at_caller value to old.regs → new.desk ≡ old.desk
        → PerformsCall (path_by (answers (bytes old.memory) script) (console_status old.regs old.desk.spot)) old (Ok served.Went) new
    status_goes status back desk = after_input (λ answer. completion (if is_some answer then 0xff else 0) old.regs old.desk.spot [] no_writes) (slice_get script old.desk.spot.cursor) refl
        (returns_with script _ old.desk.spot [] no_writes address (back ∙ ap (λ v. at_caller v to old.regs) status) (unsent old.desk.spot old.desk desk) refl refl refl refl looked)

    -- Function 6, if no byte is left, and if one is.
    pub given_none : None ≡ slice_get script old.desk.spot.cursor → new.regs ≡ at_caller 0 to old.regs → new.desk ≡ old.desk
        → PerformsCall (path_by (answers (bytes old.memory) script) (direct_input old.regs old.desk.spot)) old (Ok served.Went) new
    given_none e back desk = after_input (direct_input_call old.regs old.desk.spot) None e (returns_with script 0 old.desk.spot [] no_writes address back (unsent old.desk.spot old.desk desk) refl refl refl refl looked)

    pub given_byte : (byte : ℕ) → Some byte ≡ slice_get script old.desk.spot.cursor → new.regs ≡ at_caller byte to old.regs
        → new.desk ≡ record { spot = record old.desk.spot { cursor = old.desk.spot.cursor + 1 }; text = old.desk.text }
        → PerformsCall (path_by (answers (bytes old.memory) script) (direct_input old.regs old.desk.spot)) old (Ok served.Went) new
    given_byte byte e back desk = after_input (direct_input_call old.regs old.desk.spot) (Some byte) e
        (returns_with script byte (record old.desk.spot { cursor = old.desk.spot.cursor + 1 }) [] no_writes address back (unsent _ old.desk desk) refl refl refl refl looked)
