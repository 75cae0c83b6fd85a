-- The effect of a call, from the effects of its parts.
use Rattle.std.proofs.Common.{◌≡◌, ℕ, Bool, List, [], ◌∷◌, ◌++◌, Result, Ok, Err, OnOk, OnErr, Some, cond, refl, sym, ap, subst, ◌∙◌}
use Rattle.std.proofs.lemmas.List.{append-nil}
use Rattle.std.specs.declared.alloc.AllocError.{AllocError}
use Rattle.std.specs.Borrow.{GName}
use Rattle.interaction_trees.specs.Tree.{Return, result_of, questions_of}
use Rattle.i8080.specs.Memory.{Memory, Extends, bytes, look_all, write_all}
use Rattle.i8080.specs.Reading.{Reading, Done, Cell, end_of, asked}
use Rattle.i8080.specs.Registers.{word}
use Rattle.i8080.specs.Instruction.{word_at}
use Rattle.i8080.specs.End.{cells_from}
use Rattle.i8080.specs.Performs.{Reads}
use Rattle.i8080.proofs.WriteLookLemmas.{extends_itself, extends_by}
use Rattle.console_calls.specs.declared.served.Served.{Served}
use Rattle.console_calls.specs.declared.served.Served.TheVariants as served
use Rattle.console_calls.specs.declared.desk.Spot.{Spot}
use Rattle.console_calls.specs.declared.cause.Cause.{Cause}
use Rattle.console_calls.specs.StateQuestions.{StateTree, answers}
use Rattle.console_calls.specs.ConsoleCalls.{CallEnd, Completed, Stopped, at_caller}
use Rattle.console_calls.specs.PerformsCall.{Scene, CallPath, PerformsCall, path_by}
use Rattle.console_calls.proofs.Scanning.{same_bytes}
use Rattle.console_calls.proofs.Carried.{unsent, after_cells, executes, fails}
use Rattle.console_calls.proofs.Carried as console
use Rattle.hostfiles.specs.FileLooks.{KeepsAsks}
use Rattle.hostfiles.proofs.LookLemmas.{extends_same, extends_trans}
use Rattle.hostfiles.specs.declared.looks.FileLooks.{FileLooks}
use Rattle.hostfiles.specs.Hosts.{Host, Key}
use Rattle.hostfiles.specs.Files.{OwnFiles}
use Rattle.hostfiles.specs.declared.changes.Changes.{Changes}
use Rattle.file_calls.specs.FileQuestions.{FileQuestion, FileTree}
use Rattle.file_calls.specs.TableView.{TableView, file_answers, look_for_all}
use Rattle.file_calls.specs.declared.block.Block.{Block}
use Rattle.file_calls.specs.declared.finding.Finding.{Finding}
use Rattle.file_calls.specs.Changes.{FileChange, Unchanged, Deleted}
use Rattle.file_calls.specs.Deletes.{Deletes, own_after_change}
use Rattle.file_calls.specs.Asks.{Asks}
use Rattle.file_calls.proofs.Extending.{within_all}
use Rattle.filenames.specs.declared.drive.Drive.{Drive}
use Rattle.bdos.specs.SystemQuestions.{SystemTree, SystemAnswers, bind_reading, bind_state, bind_files}
use Rattle.bdos.specs.FileCalls.{SystemEnd, return_with, call_with_finding, call_with_block, call_on_drive, drive_of_byte, block_reading, deletion_value}
use Rattle.bdos.specs.PerformsSystemCall.{SystemPath, PerformsSystemCall, system_path_by, system_answers}
use Rattle.bdos.proofs.Trees.{system_path_after, path-reading, path-state, path-files}

on_ok : {P : Type 0} (result : Result Served AllocError) → P → OnOk result P
on_ok (Ok s) p = p
on_ok (Err e) p = tt

at_err : {P : Type 0} (result : Result Served AllocError) → P → OnErr result P
at_err (Ok s) p = tt
at_err (Err e) p = p

-- The path of a call over a memory, a script and files.
abbrev pub path_over : List ℕ → Memory → TableView → SystemTree SystemEnd → SystemPath SystemEnd
path_over script m v t = system_path_by (system_answers (bytes m) script v.host v.own) t

module _ {old new : Scene} {v v' : TableView} {result : Result Served AllocError} where
  -- An equal path.
  pub along : {p q : SystemPath SystemEnd} → p ≡ q → PerformsSystemCall p old v result new v' → PerformsSystemCall q old v result new v'
  along e w = subst (λ (p : SystemPath SystemEnd). PerformsSystemCall p old v result new v') e w

module _ (script : List ℕ) {old new : Scene} {m1 : Memory} {v v' : TableView} {result : Result Served AllocError} where
  -- A reading, and what follows its end.
  pub after_read : {E : Type 0} (t : Reading E) (k : E → SystemTree SystemEnd) (e : E) → Reads t old.memory e m1
      → PerformsSystemCall (path_over script m1 v (k e)) (record old { memory = m1 }) v result new v' → PerformsSystemCall (path_over script old.memory v (bind_reading t k)) old v result new v'
  after_read t k e h w =
      let rest : path_over script m1 v (k e) ≡ path_over script old.memory v (k (end_of t (bytes old.memory))) =
      ap (λ (b : ℕ → ℕ). system_path_by (system_answers b script v.host v.own) (k e)) (same_bytes old.memory m1 h.own h.beneath) ∙ ap (λ x. path_over script old.memory v (k x)) h.value in
      let p = along rest w in
      along (sym (path-reading (system_answers (bytes old.memory) script v.host v.own) k t)) (record {
        call = after_cells (asked t (bytes old.memory)) h.looks h.own h.beneath h.lender result p.call;
        executed = p.executed;
        failed = p.failed;
        extends = p.extends;
        host = p.host;
        lends = p.lends;
      })

-- The looks of some questions to the files, and of the rest.
pub look_for-append : (own : OwnFiles) (xs ys : List FileQuestion) (l : FileLooks) → look_for_all own (xs ++ ys) l ≡ look_for_all own ys (look_for_all own xs l)
look_for-append own [] ys l = refl
look_for-append own (x ∷ xs) ys l = look_for-append own xs ys _

asks_past : (own own1 : OwnFiles) (first rest : List FileQuestion) (looks looks1 : FileLooks) → looks1 ≡ look_for_all own first looks → own1 ≡ own → look_for_all own1 rest looks1 ≡ look_for_all own (first ++ rest) looks
asks_past own own1 first rest looks looks1 e same = ap (λ (o : OwnFiles). look_for_all o rest looks1) same ∙ ap (look_for_all own rest) e ∙ sym (look_for-append own first rest looks)

module _ {old new : Scene} {p : SystemPath SystemEnd} {v v1 v' : TableView} (first : List FileQuestion) (looks : v1.looks ≡ look_for_all v.own first v.looks) (extends : KeepsAsks v.looks v1.looks)
    (own : v1.own ≡ v.own) (host : v1.host ≡ v.host) (lends : v1.lender ≡ v.lender) where
  -- The files are asked first.
  after_asks : (result : Result Served AllocError) → PerformsSystemCall p old v1 result new v' → PerformsSystemCall (system_path_after [] [] first p) old v result new v'
  after_asks (Ok s) w = record {
    call = w.call;
    executed = record { own = w.executed.own ∙ ap (own_after_change p.end.1) own; looks = w.executed.looks ∙ asks_past v.own v1.own first p.asks v.looks v1.looks looks own };
    failed = tt;
    extends = extends_trans v.looks v1.looks v'.looks extends w.extends;
    host = w.host ∙ host;
    lends = w.lends ∙ lends;
  }
  after_asks (Err e) w = record {
    call = w.call;
    executed = tt;
    failed = record { own = w.failed.own ∙ own; bound = subst (KeepsAsks v'.looks) (asks_past v.own v1.own first p.asks v.looks v1.looks looks own) w.failed.bound };
    extends = extends_trans v.looks v1.looks v'.looks extends w.extends;
    host = w.host ∙ host;
    lends = w.lends ∙ lends;
  }

-- Host files, and the changes of a run to them.
abbrev pub drives_with : Host → Changes → GName → TableView
drives_with host c lender = record { host = host; own = c.journal.entries; looks = c.looks; lender = lender }

module _ (script : List ℕ) {old new : Scene} {host : Host} {c c1 : Changes} {lender : GName} {v' : TableView} {result : Result Served AllocError} where
  -- Questions to the files, and what follows their answers.
  pub after_files : {E : Type 0} (t : FileTree E) (k : E → SystemTree SystemEnd) (e : E) → Asks t host c (Ok e) c1
      → PerformsSystemCall (path_over script old.memory (drives_with host c1 lender) (k e)) old (drives_with host c1 lender) result new v'
      → PerformsSystemCall (path_over script old.memory (drives_with host c lender) (bind_files t k)) old (drives_with host c lender) result new v'
  after_files t k e h w =
      let own : c1.journal.entries ≡ c.journal.entries = ap (λ j. j.entries) h.stays in
      let f : SystemAnswers = system_answers (bytes old.memory) script host c.journal.entries in
      let rest : system_path_by (system_answers (bytes old.memory) script host c1.journal.entries) (k e) ≡ system_path_by f (k (result_of (file_answers host c.journal.entries) t)) =
      ap (λ (o : OwnFiles). system_path_by (system_answers (bytes old.memory) script host o) (k e)) own ∙ ap (λ x. system_path_by f (k x)) h.answer in
      along (sym (path-files f k t)) (after_asks (questions_of (file_answers host c.journal.entries) t) h.looks h.extends own refl refl result (along rest w))

-- Out of memory during or after the questions to the files: nothing was changed, and nothing more was read.
module _ {p : SystemPath SystemEnd} {old new : Scene} {v v' : TableView} {e : AllocError} where
  pub gives_up : new.regs ≡ old.regs → new.memory ≡ old.memory → new.desk ≡ old.desk → v'.own ≡ v.own → KeepsAsks v.looks v'.looks → KeepsAsks v'.looks (look_for_all v.own p.asks v.looks)
      → v'.host ≡ v.host → v'.lender ≡ v.lender → ((j : ℕ) → new.looked j ≡ old.looked j) → PerformsSystemCall p old v (Err e) new v'
  gives_up regs memory desk files extends bound host lends same = record {
    call = fails (subst (λ (x : Memory). Extends old.memory.looks x.looks) (sym memory) (extends_itself old.memory.looks))
        (subst (λ (x : Memory). Extends x.looks (look_all old.memory.own p.cells old.memory.looks)) (sym memory) (extends_by old.memory.own p.cells old.memory.looks _ refl))
        regs desk (ap (λ (x : Memory). x.own) memory) same (ap (λ (x : Memory). x.beneath) memory) (ap (λ (x : Memory). x.lender) memory);
    executed = tt;
    failed = record { own = files; bound = bound };
    extends = extends;
    host = host;
    lends = lends;
  }

-- Out of memory during the questions to the files.
module _ (script : List ℕ) {old new : Scene} {v v' : TableView} {e : AllocError} where
  pub fails_asking : {E : Type 0} (t : FileTree E) (k : E → SystemTree SystemEnd) → new.regs ≡ old.regs → new.memory ≡ old.memory → new.desk ≡ old.desk → v'.own ≡ v.own → KeepsAsks v.looks v'.looks
      → KeepsAsks v'.looks (look_for_all v.own (questions_of (file_answers v.host v.own) t) v.looks)
      → v'.host ≡ v.host → v'.lender ≡ v.lender → ((j : ℕ) → new.looked j ≡ old.looked j)
      → PerformsSystemCall (path_over script old.memory v (bind_files t k)) old v (Err e) new v'
  fails_asking t k regs memory desk files extends bound host lends same =
      let f : SystemAnswers = system_answers (bytes old.memory) script v.host v.own in
      let first : List FileQuestion = questions_of (file_answers v.host v.own) t in
      let rest : List FileQuestion = (system_path_by f (k (result_of (file_answers v.host v.own) t))).asks in
      along (sym (path-files f k t))
      (gives_up regs memory desk files extends (subst (KeepsAsks v'.looks) (sym (look_for-append v.own first rest v.looks)) (within_all v.own rest v'.looks (look_for_all v.own first v.looks) bound)) host lends same)

-- Equal trees ask the same.
pub asked_as : (host : Host) {t u : FileTree Finding} {c c' : Changes} {result : Result Finding AllocError} → t ≡ u → Asks t host c result c' → Asks u host c result c'
asked_as host {c = c} {c' = c'} {result = result} e h = subst (λ (x : FileTree Finding). Asks x host c result c') e h

-- Equal answers ask the same.
pub answered_as : (t : FileTree Finding) (host : Host) {c c' : Changes} {result answer : Result Finding AllocError} → result ≡ answer → Asks t host c result c' → Asks t host c answer c'
answered_as t host {c = c} {c' = c'} e h = subst (λ (x : Result Finding AllocError). Asks t host c x c') e h

module _ (script : List ℕ) {old new : Scene} {v v' : TableView} {result : Result Served AllocError} where
  -- An equal tree.
  pub named : {t t' : SystemTree SystemEnd} → t' ≡ t → PerformsSystemCall (path_over script old.memory v t) old v result new v' → PerformsSystemCall (path_over script old.memory v t') old v result new v'
  named e w = along (ap (path_over script old.memory v) (sym e)) w

  pub found_as : (spot : Spot) (to : ℕ) {x y : Finding} → x ≡ y → PerformsSystemCall (path_over script old.memory v (call_with_finding y old.regs spot to)) old v result new v'
      → PerformsSystemCall (path_over script old.memory v (call_with_finding x old.regs spot to)) old v result new v'
  found_as spot to e w = named (ap (λ (x : Finding). call_with_finding x old.regs spot to) e) w

  -- The same bytes in the same cells.
  pub cells_as : (value : ℕ) (spot : Spot) (to : ℕ) (change : FileChange) {a b : ℕ} {xs ys : List ℕ} → a ≡ b → xs ≡ ys
      → PerformsSystemCall (path_over script old.memory v (return_with value old.regs spot to (cells_from a xs) change)) old v result new v'
      → PerformsSystemCall (path_over script old.memory v (return_with value old.regs spot to (cells_from b ys) change)) old v result new v'
  cells_as value spot to change {a = a} {ys = ys} e f w =
      named (ap (λ x. return_with value old.regs spot to (cells_from x ys) change) (sym e) ∙ ap (λ (xs : List ℕ). return_with value old.regs spot to (cells_from a xs) change) (sym f)) w

module _ {old new : Scene} {v v' : TableView} where
  -- A call that returns to its caller after it wrote cells and changed files.
  pub goes_back : (value : ℕ) (spot : Spot) (to : ℕ) (cells : List (ℕ × ℕ)) (change : FileChange) → new.regs ≡ at_caller value to old.regs → new.desk ≡ record { spot = spot; text = old.desk.text }
      → new.memory.own ≡ write_all old.memory.own cells → new.memory.looks ≡ old.memory.looks → new.memory.beneath ≡ old.memory.beneath → new.memory.lender ≡ old.memory.lender
      → v'.own ≡ own_after_change change v.own → v'.looks ≡ v.looks → v'.host ≡ v.host → v'.lender ≡ v.lender → ((j : ℕ) → new.looked j ≡ old.looked j)
      → PerformsSystemCall (record { end = (Completed (at_caller value to old.regs) spot [] (record { cells = cells }), change); cells = []; offsets = []; asks = [] }) old v (Ok served.Went) new v'
  goes_back value spot to cells change regs desk own looks beneath lender files asks host lends same = record {
    call = executes (Completed (at_caller value to old.regs) spot [] (record { cells = cells })) refl regs (unsent spot old.desk desk) own looks beneath lender same;
    executed = record { own = files; looks = asks };
    failed = tt;
    extends = extends_same v.looks v'.looks asks;
    host = host;
    lends = lends;
  }

  -- A call that stops at a drive that is not there.
  pub stops : (cause : Cause) → new.regs ≡ old.regs → new.desk ≡ old.desk → new.memory ≡ old.memory → v' ≡ v → ((j : ℕ) → new.looked j ≡ old.looked j)
      → PerformsSystemCall (record { end = (Stopped cause, Unchanged); cells = []; offsets = []; asks = [] }) old v (Ok (served.Stop cause)) new v'
  stops cause regs desk memory drives same = record {
    call = console.stops cause regs memory desk same;
    executed = record { own = ap (λ (x : TableView). x.own) drives; looks = ap (λ (x : TableView). x.looks) drives };
    failed = tt;
    extends = extends_same v.looks v'.looks (ap (λ (x : TableView). x.looks) drives);
    host = ap (λ (x : TableView). x.host) drives;
    lends = ap (λ (x : TableView). x.lender) drives;
  }

-- The first part of a call that names a file: the drive byte, the rest of the control block, and the return address.
module _ (script : List ℕ) {old new : Scene} {m1 m2 m3 : Memory} {v v' : TableView} {result : Result Served AllocError} where
  pub heads : (length n : ℕ) (k : Block → ℕ → SystemTree SystemEnd) {at : ℕ} {current : Drive} {dr : ℕ} {drive : Drive} {to : ℕ} {block : Block} → length ≡ n → at ≡ word old.regs.e old.regs.d → current ≡ old.desk.spot.drive
      → Reads (Cell at Done) old.memory dr m1 → Some drive ≡ drive_of_byte current dr → Reads (block_reading drive dr n at) m1 block m2 → Reads (word_at old.regs.sp Done) m2 to m3
      → PerformsSystemCall (path_over script m3 v (k block to)) (record old { memory = m3 }) v result new v' → PerformsSystemCall (path_over script old.memory v (call_with_block length old.regs old.desk.spot k)) old v result new v'
  heads length n k {at = at} {dr = dr} {drive = drive} {to = to} {block = block} same de here first there second third w =
      after_read script (Cell (word old.regs.e old.regs.d) Done) (λ dr. call_on_drive length old.regs old.desk.spot dr k (drive_of_byte old.desk.spot.drive dr)) dr (subst (λ (a : ℕ). Reads (Cell a Done) old.memory dr m1) de first)
      (named script (ap (call_on_drive length old.regs old.desk.spot dr k) (sym (there ∙ ap (λ c. drive_of_byte c dr) here)))
      (after_read script (block_reading drive dr length (word old.regs.e old.regs.d)) (λ b. bind_reading (word_at old.regs.sp Done) (λ to. k b to)) block
      (subst (λ (a : ℕ). Reads (block_reading drive dr length a) m1 block m2) de (subst (λ (x : ℕ). Reads (block_reading drive dr x at) m1 block m2) (sym same) second))
      (after_read script (word_at old.regs.sp Done) (λ to. k block to) to third w)))

-- A call of the desk alone.
module _ (script : List ℕ) {old new : Scene} {result : Result Served AllocError} where
  pub of_desk : (v : TableView) (t : StateTree CallEnd) → PerformsCall (path_by (answers (bytes old.memory) script) t) old result new
      → PerformsSystemCall (path_over script old.memory v (bind_state t (λ e. Return (e, Unchanged)))) old v result new v
  of_desk v t w =
      let f : SystemAnswers = system_answers (bytes old.memory) script v.host v.own in
      let p : CallPath = path_by (answers (bytes old.memory) script) t in
      let path : system_path_by f (bind_state t (λ e. Return (e, Unchanged))) ≡ record { end = (p.end, Unchanged); cells = p.cells; offsets = p.offsets; asks = [] } =
      path-state f (λ e. Return (e, Unchanged)) t ∙ (λ i. record { end = (p.end, Unchanged); cells = append-nil p.cells i; offsets = append-nil p.offsets i; asks = [] }) in
      along (sym path) (record {
        call = w;
        executed = on_ok result (record { own = refl; looks = refl });
        failed = at_err result (record { own = refl; bound = extends_same v.looks v.looks refl });
        extends = extends_same v.looks v.looks refl;
        host = refl;
        lends = refl;
      })

-- A call that deletes files and returns to its caller.
module _ (script : List ℕ) {old new : Scene} {v v' : TableView} where
  pub deleting : (to : ℕ) (t : FileTree (List Key)) {some : Bool} {value : ℕ} → Deletes t v (Ok some) v' → value ≡ cond some 0 0xff → new.regs ≡ at_caller value to old.regs → new.memory ≡ old.memory → new.desk ≡ old.desk → ((j : ℕ) → new.looked j ≡ old.looked j)
      → PerformsSystemCall (path_over script old.memory v (bind_files t (λ names. return_with (deletion_value names) old.regs old.desk.spot to [] (Deleted names)))) old v (Ok served.Went) new v'
  deleting to t h told regs memory desk same =
      let f : SystemAnswers = system_answers (bytes old.memory) script v.host v.own in
      let names : List Key = result_of (file_answers v.host v.own) t in
      let end : CallEnd = Completed (at_caller (deletion_value names) to old.regs) old.desk.spot [] (record { cells = [] }) in
      along (sym (path-files f (λ names. return_with (deletion_value names) old.regs old.desk.spot to [] (Deleted names)) t)) (record {
        call = executes end refl (regs ∙ ap (λ (x : ℕ). at_caller x to old.regs) (told ∙ ap (λ b. cond b 0 0xff) h.found)) (unsent old.desk.spot old.desk desk)
            (ap (λ (m : Memory). m.own) memory) (ap (λ (m : Memory). m.looks) memory) (ap (λ (m : Memory). m.beneath) memory) (ap (λ (m : Memory). m.lender) memory) same;
        executed = record { own = h.own; looks = h.looks ∙ ap (λ qs. look_for_all v.own qs v.looks) (sym (append-nil (questions_of (file_answers v.host v.own) t))) };
        failed = tt;
        extends = h.extends;
        host = h.host;
        lends = h.lender;
      })
