-- What a call needs memory for, from what its parts need it for.
use Rattle.std.proofs.Common.{inl, inr, ◌≡◌, ◌⊎◌, ℕ, Bool, true, List, [], Result, Ok, Err, OnErr, Some, sym, ap, subst, ◌∙◌}
use Rattle.std.specs.declared.alloc.AllocError.{AllocError}
use Rattle.std.specs.Borrow.{GName}
use Rattle.interaction_trees.specs.Tree.{result_of, questions_of}
use Rattle.i8080.specs.declared.registers.Regs.{Regs}
use Rattle.i8080.specs.Memory.{Memory, bytes}
use Rattle.i8080.specs.Reading.{Reading, Done, Cell, end_of}
use Rattle.i8080.specs.Registers.{word}
use Rattle.i8080.specs.Instruction.{word_at}
use Rattle.i8080.specs.Performs.{KeepsReady, Reads}
use Rattle.i8080.proofs.ReadyLemmas.{unready_earlier}
use Rattle.console_calls.specs.declared.served.Served.{Served}
use Rattle.console_calls.specs.declared.desk.Spot.{Spot}
use Rattle.console_calls.proofs.Scanning.{same_bytes}
use Rattle.filenames.specs.declared.drive.Drive.{Drive}
use Rattle.hostfiles.specs.FileLooks.{HasNewAsk}
use Rattle.hostfiles.specs.Hosts.{Host, Key}
use Rattle.hostfiles.specs.declared.changes.Changes.{Changes}
use Rattle.file_calls.specs.FileQuestions.{FileQuestion, FileTree}
use Rattle.file_calls.specs.TableView.{TableView, file_answers, look_for_all}
use Rattle.file_calls.specs.declared.block.Block.{Block}
use Rattle.file_calls.specs.declared.finding.Finding.TheVariants as finding
use Rattle.file_calls.specs.declared.finding.Write.{Write}
use Rattle.file_calls.specs.Changes.{Deleted, Stored, is_some_named}
use Rattle.file_calls.specs.Asks.{Asks}
use Rattle.file_calls.proofs.Extending.{new_all}
use Rattle.bdos.specs.SystemQuestions.{SystemAnswers, SystemTree, bind_reading, bind_files}
use Rattle.bdos.specs.FileCalls.{SystemEnd, bytes_at, place_cells, return_with, call_with_finding, call_with_block, call_on_drive, drive_of_byte, block_reading, deletion_value}
use Rattle.bdos.specs.PerformsSystemCall.{SystemPath, system_path_by, system_answers}
use Rattle.bdos.specs.declared.function.SystemFunction.{SystemFunction}
use Rattle.bdos.specs.declared.function.SystemFunction.TheVariants.{OfFile, SearchNext, DeleteFile, OfDesk}
use Rattle.bdos.specs.Growth.{Grows, IfOfFiles, NeedsMemory, is_change}
use Rattle.bdos.specs.SystemCalls.{call, call_of_system, system_function}
use Rattle.bdos.proofs.Numbers.{names}
use Rattle.bdos.proofs.Trees.{path-reading, path-files, result-reading}
use Rattle.bdos.proofs.Chains.{path_over, drives_with, look_for-append}

pub at_err : {P : Type 0} (result : Result Served AllocError) → P → OnErr result P
at_err (Ok s) p = tt
at_err (Err e) p = p

-- A promise after a failure, from what holds then for all answers.
pub if_failed : {P : Type 0} {Q : SystemAnswers → Type 0} (result : Result Served AllocError) → ((f : SystemAnswers) → OnErr result (Q f)) → (((f : SystemAnswers) → Q f) → P) → OnErr result P
if_failed (Ok s) h k = tt
if_failed (Err e) h k = k h

-- A record is stored.
pub stores : (f : SystemAnswers) (w : Write) (r : Regs) (spot : Spot) (to : ℕ) → is_change (result_of f (call_with_finding (finding.Write w) r spot to)).1 ≡ true
stores f w r spot to =
    ap (λ (e : SystemEnd). is_change e.1) (result-reading f (λ bytes. return_with 0 r spot to (place_cells (word r.e r.d) w.next) (Stored w bytes)) (bytes_at 128 spot.buffer))

-- What is not ready was not ready before.
grows_earlier : (ready ready1 : ℕ → Bool) (end : SystemEnd) → KeepsReady ready ready1 → Grows ready1 end → Grows ready end
grows_earlier ready ready1 end kept (inl changes) = inl changes
grows_earlier ready ready1 end kept (inr w) = inr (unready_earlier ready ready1 _ kept w)

needs_earlier : (ready ready1 : ℕ → Bool) (v : TableView) (p : SystemPath SystemEnd) → KeepsReady ready ready1 → NeedsMemory ready1 v p → NeedsMemory ready v p
needs_earlier ready ready1 v p kept (inl new) = inl new
needs_earlier ready ready1 v p kept (inr grows) = inr (grows_earlier ready ready1 p.end kept grows)

-- An equal path.
along : (ready : ℕ → Bool) (v : TableView) {p q : SystemPath SystemEnd} → p ≡ q → NeedsMemory ready v p → NeedsMemory ready v q
along ready v e w = subst (λ (p : SystemPath SystemEnd). NeedsMemory ready v p) e w

module _ (script : List ℕ) (m m1 : Memory) (v : TableView) (ready ready1 : ℕ → Bool) where
  -- A reading, and what follows its end.
  pub after_read : {E : Type 0} (t : Reading E) (k : E → SystemTree SystemEnd) (e : E) → Reads t m e m1 → KeepsReady ready ready1
      → NeedsMemory ready1 v (path_over script m1 v (k e)) → NeedsMemory ready v (path_over script m v (bind_reading t k))
  after_read t k e h kept w =
      let rest : path_over script m1 v (k e) ≡ path_over script m v (k (end_of t (bytes m))) =
      ap (λ (b : ℕ → ℕ). system_path_by (system_answers b script v.host v.own) (k e)) (same_bytes m m1 h.own h.beneath) ∙ ap (λ x. path_over script m v (k x)) h.value in
      along ready v (sym (path-reading (system_answers (bytes m) script v.host v.own) k t)) (needs_earlier ready ready1 v (path_over script m v (k (end_of t (bytes m)))) kept (along ready1 v rest w))

module _ (script : List ℕ) (m : Memory) (ready : ℕ → Bool) where
  -- The questions to the files are new to the host files.
  pub asks_anew : (v : TableView) {E : Type 0} (t : FileTree E) (k : E → SystemTree SystemEnd)
      → HasNewAsk v.looks (look_for_all v.own (questions_of (file_answers v.host v.own) t) v.looks) → NeedsMemory ready v (path_over script m v (bind_files t k))
  asks_anew v t k h =
      let f : SystemAnswers = system_answers (bytes m) script v.host v.own in
      let first : List FileQuestion = questions_of (file_answers v.host v.own) t in
      let rest : List FileQuestion = (system_path_by f (k (result_of (file_answers v.host v.own) t))).asks in
      along ready v (sym (path-files f k t)) (inl (subst (HasNewAsk v.looks) (sym (look_for-append v.own first rest v.looks)) (new_all v.own rest v.looks _ h)))

  -- What follows the answers of the files needs memory.
  pub after_files : (host : Host) (lender : GName) {c c1 : Changes} {E : Type 0} (t : FileTree E) (k : E → SystemTree SystemEnd) (e : E) → Asks t host c (Ok e) c1
      → ((f : SystemAnswers) → Grows ready (result_of f (k e))) → NeedsMemory ready (drives_with host c lender) (path_over script m (drives_with host c lender) (bind_files t k))
  after_files host lender {c = c} t k e h grows =
      let f : SystemAnswers = system_answers (bytes m) script host c.journal.entries in
      along ready (drives_with host c lender) (sym (path-files f k t)) (inr (subst (λ x. Grows ready (result_of f (k x))) h.answer (grows f)))

  -- A deletion.
  pub deleting : (v : TableView) (t : FileTree (List Key)) (r : Regs) (spot : Spot) (to : ℕ)
      → HasNewAsk v.looks (look_for_all v.own (questions_of (file_answers v.host v.own) t) v.looks) ⊎ (is_some_named (result_of (file_answers v.host v.own) t) ≡ true)
      → NeedsMemory ready v (path_over script m v (bind_files t (λ names. return_with (deletion_value names) r spot to [] (Deleted names))))
  deleting v t r spot to (inl new) = asks_anew v t (λ names. return_with (deletion_value names) r spot to [] (Deleted names)) new
  deleting v t r spot to (inr some) =
      along ready v (sym (path-files (system_answers (bytes m) script v.host v.own) (λ names. return_with (deletion_value names) r spot to [] (Deleted names)) t)) (inr (inl some))

-- The first part of a call that names a file: the drive byte, the rest of the control block, and the return address.
module _ (script : List ℕ) (m m1 m2 m3 : Memory) (v : TableView) (ready ready1 ready2 ready3 : ℕ → Bool) (r : Regs) (spot : Spot) where
  pub heads : (length n : ℕ) (k : Block → ℕ → SystemTree SystemEnd) {at : ℕ} {current : Drive} {dr : ℕ} {drive : Drive} {to : ℕ} {block : Block} → length ≡ n → at ≡ word r.e r.d → current ≡ spot.drive
      → Reads (Cell at Done) m dr m1 → Some drive ≡ drive_of_byte current dr → Reads (block_reading drive dr n at) m1 block m2 → Reads (word_at r.sp Done) m2 to m3
      → KeepsReady ready ready1 → KeepsReady ready1 ready2 → KeepsReady ready2 ready3
      → NeedsMemory ready3 v (path_over script m3 v (k block to)) → NeedsMemory ready v (path_over script m v (call_with_block length r spot k))
  heads length n k {at = at} {dr = dr} {drive = drive} {to = to} {block = block} same de here first there second third kept1 kept2 kept3 w =
      after_read script m m1 v ready ready1 (Cell (word r.e r.d) Done) (λ dr. call_on_drive length r spot dr k (drive_of_byte spot.drive dr)) dr (subst (λ (a : ℕ). Reads (Cell a Done) m dr m1) de first) kept1
      (along ready1 v (ap (λ x. path_over script m1 v (call_on_drive length r spot dr k x)) (there ∙ ap (λ c. drive_of_byte c dr) here))
      (after_read script m1 m2 v ready1 ready2 (block_reading drive dr length (word r.e r.d)) (λ b. bind_reading (word_at r.sp Done) (λ to. k b to)) block
      (subst (λ (a : ℕ). Reads (block_reading drive dr length a) m1 block m2) de (subst (λ (x : ℕ). Reads (block_reading drive dr x at) m1 block m2) (sym same) second)) kept2
      (after_read script m2 m3 v ready2 ready3 (word_at r.sp Done) (λ to. k block to) to third kept3 w)))

-- ---- the call of a number

if_of_files : (P : Type 0) (g : SystemFunction) (result : Result Served AllocError) → OnErr result P → OnErr result (IfOfFiles g P)
if_of_files P (OfFile f) result h = h
if_of_files P SearchNext result h = h
if_of_files P DeleteFile result h = h
if_of_files P OfDesk result h = at_err result tt

module _ (n : ℕ) (script : List ℕ) (m : Memory) (v : TableView) (ready : ℕ → Bool) (r : Regs) (spot : Spot) {f : SystemFunction} (number : f ≡ system_function r.c) where
  pub of_number : (g : SystemFunction) → f ≡ g → (result : Result Served AllocError) → OnErr result (NeedsMemory ready v (path_over script m v (call_of_system n g r spot)))
      → OnErr result (IfOfFiles (system_function r.c) (NeedsMemory ready v (path_over script m v (call n r spot))))
  of_number g is result h =
      subst (λ (x : SystemFunction). OnErr result (IfOfFiles x (NeedsMemory ready v (path_over script m v (call n r spot))))) (sym is ∙ number)
      (if_of_files (NeedsMemory ready v (path_over script m v (call n r spot))) g result (subst (λ (t : SystemTree SystemEnd). OnErr result (NeedsMemory ready v (path_over script m v t))) (sym (names n r spot number is)) h))

  pub of_console : f ≡ OfDesk → (result : Result Served AllocError) → OnErr result (IfOfFiles (system_function r.c) (NeedsMemory ready v (path_over script m v (call n r spot))))
  of_console is result =
      subst (λ (x : SystemFunction). OnErr result (IfOfFiles x (NeedsMemory ready v (path_over script m v (call n r spot))))) (sym is ∙ number) (at_err result tt)
