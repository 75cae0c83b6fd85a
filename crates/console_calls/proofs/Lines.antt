-- Function 10, from its parts.
use Rattle.std.proofs.Common.{◌≡◌, ℕ, suc, ◌+◌, ◌||◌, ◌++◌, List, [], reverse, Result, Ok, Err, ap, sym, subst, ◌∙◌}
use Rattle.std.specs.declared.alloc.AllocError.{AllocError}
use Rattle.interaction_trees.specs.Tree.{result_of, questions_of}
use Rattle.i8080.specs.Memory.{Memory, bytes, write_all}
use Rattle.i8080.specs.Reading.{Done, Cell}
use Rattle.i8080.specs.Registers.{word}
use Rattle.i8080.specs.Instruction.{word_at}
use Rattle.i8080.specs.Performs.{Reads}
use Rattle.console_calls.specs.declared.served.Served.{Served}
use Rattle.console_calls.specs.declared.served.Served.TheVariants as served
use Rattle.console_calls.specs.declared.cause.Cause.TheVariants.{WarmBoot, ConsoleExhausted}
use Rattle.console_calls.specs.declared.line.LineEnd.{LineEnd}
use Rattle.console_calls.specs.declared.line.LineEnd.TheVariants as code
use Rattle.console_calls.specs.Desk.{column_after_all}
use Rattle.console_calls.specs.ScriptLooks.{is_ahead}
use Rattle.console_calls.specs.StateQuestions.{StateAnswers, StateTree, bind_tree, answers, script_offsets}
use Rattle.console_calls.specs.Line.{Line, no_line, line_tree}
use Rattle.console_calls.specs.Line as line
use Rattle.console_calls.specs.LineAgrees.{IsLineOf, end_from, look_count_of}
use Rattle.console_calls.specs.ConsoleCalls.{CallEnd, at_caller, line_input, line_end_call, line_cells}
use Rattle.console_calls.specs.PerformsCall.{Scene, PerformsCall, path_by}
use Rattle.console_calls.proofs.Carried.{along, stops, after_read, after_offsets, fails_after_offsets}
use Rattle.console_calls.proofs.Leaves.{returns_with}
use Rattle.console_calls.proofs.Typing.{no_cells}
use Rattle.console_calls.proofs.Trees.{path_after, path-followed_by}

module _ {script : List ℕ} (old new : Scene) {m1 : Memory} {at capacity n cursor : ℕ} {taken e : LineEnd} (de : at ≡ word old.regs.e old.regs.d) (first : Reads (Cell at Done) old.memory capacity m1)
    (here : cursor ≡ old.desk.spot.cursor) (types : IsLineOf script capacity cursor taken (bytes m1) n) (went : taken ≡ e) where
  abbrev f : StateAnswers
  f = answers (bytes m1) script

  abbrev tree : StateTree line.LineEnd
  tree = line_tree (suc n) capacity old.desk.spot.cursor no_line

  abbrev next : line.LineEnd → StateTree CallEnd
  next = line_end_call old.regs old.desk.spot

  typed : IsLineOf script capacity old.desk.spot.cursor e (bytes m1) n
  typed = subst (λ x. IsLineOf script capacity old.desk.spot.cursor x (bytes m1) n) went (subst (λ k. IsLineOf script capacity k taken (bytes m1) n) here types)

  -- The capacity was read, and the line is asked for.
  after_capacity : {result : Result Served AllocError} → PerformsCall (path_after [] (script_offsets (questions_of f tree)) (path_by f (next (end_from old.desk.spot.cursor e)))) (record old { memory = m1 }) result new
      → PerformsCall (path_by (answers (bytes old.memory) script) (line_input n old.regs old.desk.spot)) old result new
  after_capacity w = after_read script (Cell (word old.regs.e old.regs.d) Done) (λ c. bind_tree (line_tree (suc n) c old.desk.spot.cursor no_line) next) capacity (subst (λ a. Reads (Cell a Done) old.memory capacity m1) de first)
      (along
      (sym (path-followed_by f next tree ∙ ap (λ cells. path_after cells (script_offsets (questions_of f tree)) (path_by f (next (result_of f tree)))) (no_cells (bytes m1) script (suc n) capacity old.desk.spot.cursor no_line)
      ∙ ap (λ x. path_after [] (script_offsets (questions_of f tree)) (path_by f (next x))) typed.ends)) w)

  -- The line was taken, and the call is executed, or fails.
  after_line : {s : Served} → PerformsCall (path_by f (next (end_from old.desk.spot.cursor e))) (record old { memory = m1; looked = λ j. old.looked j || is_ahead old.desk.spot.cursor (look_count_of e) j }) (Ok s) new
      → PerformsCall (path_by (answers (bytes old.memory) script) (line_input n old.regs old.desk.spot)) old (Ok s) new
  after_line w = after_capacity (after_offsets (script_offsets (questions_of f tree)) (is_ahead old.desk.spot.cursor (look_count_of e)) typed.offsets w)

  pub line_fails : {error : AllocError} → PerformsCall (path_by f (next (end_from old.desk.spot.cursor e))) (record old { memory = m1 }) (Err error) new
      → PerformsCall (path_by (answers (bytes old.memory) script) (line_input n old.regs old.desk.spot)) old (Err error) new
  line_fails w = after_capacity (fails_after_offsets (script_offsets (questions_of f tree)) w)

module _ {script : List ℕ} (old new : Scene) {m1 : Memory} {at capacity n cursor : ℕ} {taken : LineEnd} (de : at ≡ word old.regs.e old.regs.d) (first : Reads (Cell at Done) old.memory capacity m1)
    (here : cursor ≡ old.desk.spot.cursor) (types : IsLineOf script capacity cursor taken (bytes m1) n) (looks : ℕ) (looked : (j : ℕ) → new.looked j ≡ (old.looked j || is_ahead old.desk.spot.cursor looks j)) where
  pub line_boots : taken ≡ code.Booted looks → new.regs ≡ old.regs → new.memory ≡ m1 → new.desk ≡ old.desk
      → PerformsCall (path_by (answers (bytes old.memory) script) (line_input n old.regs old.desk.spot)) old (Ok (served.Stop WarmBoot)) new
  line_boots went regs memory desk = after_line old new de first here types went (stops WarmBoot regs memory desk looked)

  pub line_short : taken ≡ code.Short looks → new.regs ≡ old.regs → new.memory ≡ m1 → new.desk ≡ old.desk
      → PerformsCall (path_by (answers (bytes old.memory) script) (line_input n old.regs old.desk.spot)) old (Ok (served.Stop ConsoleExhausted)) new
  line_short went regs memory desk = after_line old new de first here types went (stops ConsoleExhausted regs memory desk looked)

  pub line_goes : {m2 m3 : Memory} {l : Line} {to : ℕ} → taken ≡ code.Ended l looks → Reads (word_at old.regs.sp Done) m1 to m2 → m3 ≡ m2 → new.regs ≡ at_caller 0 to old.regs
      → new.desk ≡ record { spot = record old.desk.spot { cursor = old.desk.spot.cursor + looks; column = column_after_all old.desk.spot.column l.sends }; text = old.desk.text ++ l.sends }
      → new.memory.own ≡ write_all m3.own (line_cells at (reverse l.stored)) → new.memory.looks ≡ m3.looks → new.memory.beneath ≡ m3.beneath → new.memory.lender ≡ m3.lender
      → PerformsCall (path_by (answers (bytes old.memory) script) (line_input n old.regs old.desk.spot)) old (Ok served.Went) new
  line_goes {m2 = m2} {l = l} went address ready back desk own seen beneath lender = after_line old new de first here types went
      (returns_with script 0 _ l.sends (record { cells = line_cells (word old.regs.e old.regs.d) (reverse l.stored) }) address back desk
      (own ∙ ap (λ (x : Memory). write_all x.own (line_cells at (reverse l.stored))) ready ∙ ap (λ a. write_all m2.own (line_cells a (reverse l.stored))) de)
      (seen ∙ ap (λ (x : Memory). x.looks) ready) (beneath ∙ ap (λ (x : Memory). x.beneath) ready) (lender ∙ ap (λ (x : Memory). x.lender) ready) looked)
