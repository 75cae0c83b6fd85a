-- What a step does to the files fits them: a file that is written or renamed is there, a write knows the length, and a rename stays on
-- its drive. So what was done stays sound along a run.
use Rattle.std.proofs.Common.{◌≡◌, ℕ, ◌+◌, ◌==◌, ◌&&◌, not, Bool, true, false, cond, [], length, Option, Some, None, slice_index, nat_le, nat_lt, refl, sym, ap, subst, ◌∙◌}
use Rattle.interaction_trees.specs.Tree.{Return, Query, result_of, map_result}
use Rattle.interaction_trees.specs.Outcome.{Step}
use Rattle.interaction_trees.specs.Dependence as dependence
use Rattle.interaction_trees.proofs.DependenceLemmas.{same_everywhere, result_of-returning}
use Rattle.i8080.specs.declared.registers.Regs.{Regs}
use Rattle.i8080.specs.Reading.{Reading, Done, Cell}
use Rattle.i8080.specs.Registers.{word}
use Rattle.i8080.specs.Instruction.{instruction, word_at}
use Rattle.i8080.specs.End as end
use Rattle.console_calls.specs.declared.cause.Cause.TheVariants.{WarmBoot, SystemArea}
use Rattle.console_calls.specs.declared.desk.Spot.{Spot}
use Rattle.console_calls.specs.ConsoleCalls.{CallEnd, Completed}
use Rattle.console_calls.specs.ConsoleCalls as calls
use Rattle.console_calls.specs.Drive.{Drive}
use Rattle.hostfiles.specs.Names.{is_sayable}
use Rattle.hostfiles.specs.ControlBlock.{place_of, random_place_of}
use Rattle.hostfiles.specs.Entries.{count_at, next_among}
use Rattle.hostfiles.specs.Search.{Search}
use Rattle.hostfiles.specs.Hosts.{Key, Host}
use Rattle.hostfiles.specs.declared.journal.Gap.{Gap}
use Rattle.hostfiles.specs.declared.journal.Gap.TheVariants.{Holes, Zeros}
use Rattle.hostfiles.specs.Files.{OwnFiles, has, length_at}
use Rattle.cpmfiles.specs.Renaming.{is_rename}
use Rattle.file_calls.specs.declared.block.Block.{Block}
use Rattle.file_calls.specs.declared.function.FileFunction.{FileFunction}
use Rattle.file_calls.specs.declared.function.FileFunction.TheVariants.{Open, Close, SearchFirst, ReadSequential, WriteSequential, Make, Rename, ReadRandom, WriteRandom, FileSize, SetRandomRecord, WriteRandomZeroFill}
use Rattle.file_calls.specs.declared.finding.Finding.{Finding}
use Rattle.file_calls.specs.declared.finding.Finding.TheVariants as finding
use Rattle.file_calls.specs.FileQuestions.{FileQuestion, FileAnswers, FileTree, IsThere, ShapeOf, Content, FilesOn}
use Rattle.file_calls.specs.TableView.{file_answers}
use Rattle.file_calls.specs.Findings.{finding_of, block_length, deletion, search_next, key_of, new_key_of, absent_value, if_there, if_in_range, record_finding, missing_value, write_finding, entry_finding}
use Rattle.file_calls.specs.Changes.{FileChange, Unchanged, Made, Deleted, Renamed, Stored}
use Rattle.file_calls.specs.Deletes.{own_after_change}
use Rattle.file_calls.proofs.Shapes.{places}
use Rattle.bdos.specs.SystemQuestions.{SystemQuestion, OfState, OfFiles, SystemAnswers, SystemTree, bind_reading, bind_files}
use Rattle.bdos.specs.FileCalls.{SystemEnd, return_with, deletion_value, bytes_at, block_reading, drive_of_byte, call_with_finding, call_with_block, call_on_drive}
use Rattle.bdos.specs.declared.function.SystemFunction.{SystemFunction}
use Rattle.bdos.specs.declared.function.SystemFunction.TheVariants.{OfFile, SearchNext, DeleteFile, OfDesk}
use Rattle.bdos.specs.SystemCalls.{call, call_of_system, system_function}
use Rattle.bdos.proofs.Trees.{result-reading, result-state, result-files}
use Rattle.file_calls.specs.HostTrees.{AreSoundOwnFiles, IsFitting}
use Rattle.file_calls.specs.HostTrees as passing
use Rattle.file_calls.proofs.Answering.{answers_are}
use Rattle.file_calls.proofs.Soundness.{starts_sound, stays_sound}
use Rattle.machine.specs.Inputs.{Session, Core}
use Rattle.machine.specs.StateView.{PartialState}
use Rattle.machine.specs.Step.{StepEnd, Went, Stopped, step_end_of, step_end_with, step_end_of_call, script_limit, next, desk_with}
use Rattle.machine.specs.Machine.{session_answers, laid, with_cells, outcome_with, start, after, IsReached, outcome}
use Rattle.interaction_trees.proofs.RunLemmas.{holds_after}
use Rattle.machine.proofs.HostLemmas.{result_of-asking_host}

module _ (host : Host) (own : OwnFiles) where
  -- A change of files that are there.
  abbrev pub IsFit : FileChange → Type 0
  IsFit Unchanged = Unit {0}
  IsFit (Made key) = Unit {0}
  IsFit (Deleted keys) = Unit {0}
  IsFit (Renamed old new) = (slice_index old 0 ≡ slice_index new 0) × (has host own old ≡ true)
  IsFit (Stored w r) = (w.length ≡ length_at host own w.key) × (has host own w.key ≡ true)

  fitting : (change : FileChange) → IsFit change → IsFitting host own change
  fitting Unchanged h = tt
  fitting (Made key) h = tt
  fitting (Deleted keys) h = tt
  fitting (Renamed old new) h = h.0
  fitting (Stored w r) h = h.0

  -- A stop changes no file.
  abbrev pub IsStill : CallEnd → FileChange → Type 0
  IsStill (Completed r spot bytes written) change = Unit {0}
  IsStill (calls.Stopped cause) change = change ≡ Unchanged

  abbrev pub Fits : SystemEnd → Type 0
  Fits e = IsFit e.1 × IsStill e.0 e.1

  abbrev pub FitsReached : StepEnd → Type 0
  FitsReached (Went r spot bytes wrote change) = IsFit change
  FitsReached (Stopped cause) = Unit {0}

  abbrev FitsFinding : Finding → Type 0
  FitsFinding (finding.Value v) = Unit {0}
  FitsFinding (finding.Opened n) = Unit {0}
  FitsFinding (finding.FirstEntry s) = Unit {0}
  FitsFinding finding.NoEntry = Unit {0}
  FitsFinding (finding.Found r n) = Unit {0}
  FitsFinding (finding.Write w) = (w.length ≡ length_at host own w.key) × (has host own w.key ≡ true)
  FitsFinding (finding.Make key) = Unit {0}
  FitsFinding (finding.Rename old new) = (slice_index old 0 ≡ slice_index new 0) × (has host own old ≡ true)
  FitsFinding (finding.Length n) = Unit {0}
  FitsFinding finding.NoLength = Unit {0}
  FitsFinding (finding.RandomPlace n) = Unit {0}

  -- ---- what a call finds

  module _ (g : FileAnswers) (h : (q : FileQuestion) → g q ≡ file_answers host own q) where
    there : (key : Key) (t : FileTree Finding) → (has host own key ≡ true → FitsFinding (result_of g t)) → FitsFinding (result_of g (if_there key t))
    there key t k = by (g (IsThere key)) (h (IsThere key)) where
      by : (b : Bool) → b ≡ has host own key → FitsFinding (result_of g (cond b t (Return absent_value)))
      by true e = k (sym e)
      by false e = tt

    in_range : (b : Block) (t : FileTree Finding) → (has host own (key_of b) ≡ true → FitsFinding (result_of g t)) → FitsFinding (result_of g (if_in_range b t))
    in_range b t k = there (key_of b) (cond (slice_index b.fcb 35 == 0) t (Return (finding.Value 6))) (λ e. by (slice_index b.fcb 35 == 0) e) where
      by : (c : Bool) → has host own (key_of b) ≡ true → FitsFinding (result_of g (cond c t (Return (finding.Value 6))))
      by true e = k e
      by false e = tt

    written : (b : Block) (place next : ℕ) (gap : Gap) → has host own (key_of b) ≡ true → FitsFinding (result_of g (write_finding b place next gap))
    written b place next gap e = (ap length (h (ShapeOf (key_of b))) ∙ sym (places host own (key_of b)), e)

    entry_fits : (pattern : Key) (ex : ℕ) (o : Option _) → FitsFinding (entry_finding pattern ex o)
    entry_fits pattern ex None = tt
    entry_fits pattern ex (Some e) = tt

    record_fits : (next value : ℕ) (o : Option _) → FitsFinding (record_finding next value o)
    record_fits next value None = tt
    record_fits next value (Some r) = tt

    read_fits : (key : Key) (place next value : ℕ) (before : Bool) (other : ℕ) → FitsFinding (result_of g (cond before (Query (Content key place) (λ r. Return (record_finding next value r))) (Return (finding.Value other))))
    read_fits key place next value true other = record_fits next value (g (Content key place))
    read_fits key place next value false other = tt

    sequential_fits : (b : Block) (c : Bool) → has host own (key_of b) ≡ true → FitsFinding (result_of g (cond c (write_finding b (place_of b.fcb) (place_of b.fcb + 1) Holes) (Return (finding.Value 2))))
    sequential_fits b true e = written b (place_of b.fcb) (place_of b.fcb + 1) Holes e
    sequential_fits b false e = tt

    made_fits : (b : Block) (c : Bool) → FitsFinding (result_of g (cond c (Query (IsThere (key_of b)) (λ there. Return (cond there absent_value (finding.Make (key_of b))))) (Return absent_value)))
    made_fits b false = tt
    made_fits b true = by (g (IsThere (key_of b))) where
      by : (c : Bool) → FitsFinding (cond c absent_value (finding.Make (key_of b)))
      by true = tt
      by false = tt

    renamed_fits : (b : Block) (c : Bool) → FitsFinding (result_of g (cond c (Query (IsThere (key_of b)) (λ there. Query (IsThere (new_key_of b)) (λ taken. Return (cond (there && not taken) (finding.Rename (key_of b) (new_key_of b)) absent_value)))) (Return absent_value)))
    renamed_fits b false = tt
    renamed_fits b true = by (g (IsThere (key_of b))) (g (IsThere (new_key_of b))) (h (IsThere (key_of b))) where
      by : (there taken : Bool) → there ≡ has host own (key_of b) → FitsFinding (cond (there && not taken) (finding.Rename (key_of b) (new_key_of b)) absent_value)
      by true true e = tt
      by true false e = (refl, sym e)
      by false taken e = tt

    size_fits : (b : Block) (c : Bool) → FitsFinding (result_of g (cond c (Query (ShapeOf (key_of b)) (λ s. Return (finding.Length (length s)))) (Return finding.NoLength)))
    size_fits b true = tt
    size_fits b false = tt

    found_fits : (f : FileFunction) (b : Block) → FitsFinding (result_of g (finding_of f b))
    found_fits Open b = there (key_of b) (Query (ShapeOf (key_of b)) (λ s. Return (finding.Opened (count_at s (slice_index b.fcb 12))))) (λ e. tt)
    found_fits Close b = there (key_of b) (Return (finding.Value 0)) (λ e. tt)
    found_fits SearchFirst b = entry_fits (key_of b) (slice_index b.fcb 12) (next_among (key_of b) (slice_index b.fcb 12) None (g (FilesOn (slice_index (key_of b) 0))))
    found_fits ReadSequential b =
        there (key_of b) (Query (ShapeOf (key_of b)) (λ s. cond (nat_lt (place_of b.fcb) (length s)) (Query (Content (key_of b) (place_of b.fcb)) (λ r. Return (record_finding (place_of b.fcb + 1) 1 r))) (Return (finding.Value 1))))
        (λ e. read_fits (key_of b) (place_of b.fcb) (place_of b.fcb + 1) 1 (nat_lt (place_of b.fcb) (length (g (ShapeOf (key_of b))))) 1)
    found_fits WriteSequential b =
        there (key_of b) (cond (nat_lt (place_of b.fcb) 65536) (write_finding b (place_of b.fcb) (place_of b.fcb + 1) Holes) (Return (finding.Value 2))) (sequential_fits b (nat_lt (place_of b.fcb) 65536))
    found_fits Make b = made_fits b (is_sayable (key_of b))
    found_fits Rename b = renamed_fits b (is_rename (key_of b) (new_key_of b))
    found_fits ReadRandom b =
        in_range b (Query (ShapeOf (key_of b)) (λ s. cond (nat_lt (random_place_of b.fcb) (length s)) (Query (Content (key_of b) (random_place_of b.fcb)) (λ r. Return (record_finding (random_place_of b.fcb) (missing_value s (random_place_of b.fcb)) r))) (Return (finding.Value (missing_value s (random_place_of b.fcb))))))
        (λ e. read_fits (key_of b) (random_place_of b.fcb) (random_place_of b.fcb) (missing_value (g (ShapeOf (key_of b))) (random_place_of b.fcb)) (nat_lt (random_place_of b.fcb) (length (g (ShapeOf (key_of b))))) (missing_value (g (ShapeOf (key_of b))) (random_place_of b.fcb)))
    found_fits WriteRandom b = in_range b (write_finding b (random_place_of b.fcb) (random_place_of b.fcb) Holes) (written b (random_place_of b.fcb) (random_place_of b.fcb) Holes)
    found_fits FileSize b = size_fits b (g (IsThere (key_of b)))
    found_fits SetRandomRecord b = tt
    found_fits WriteRandomZeroFill b = in_range b (write_finding b (random_place_of b.fcb) (random_place_of b.fcb) Zeros) (written b (random_place_of b.fcb) (random_place_of b.fcb) Zeros)

    next_found_fits : (o : Option Search) → FitsFinding (result_of g (search_next o))
    next_found_fits None = tt
    next_found_fits (Some s) = entry_fits s.pattern s.extent _

  -- ---- a call, and a step

  module _ (f : SystemAnswers) (h : (q : FileQuestion) → f (OfFiles q) ≡ file_answers host own q) where
    abbrev of_files : FileAnswers
    of_files q = f (OfFiles q)

    read_first : {E : Type 0} (t : Reading E) (k : E → SystemTree SystemEnd) → ((e : E) → Fits (result_of f (k e))) → Fits (result_of f (bind_reading t k))
    read_first t k fits = subst Fits (sym (result-reading f k t)) (fits _)

    carried_fits : (x : Finding) (r : Regs) (spot : Spot) (to : ℕ) → FitsFinding x → Fits (result_of f (call_with_finding x r spot to))
    carried_fits (finding.Value value) r spot to fits = (tt, tt)
    carried_fits (finding.Opened count) r spot to fits = (tt, tt)
    carried_fits (finding.FirstEntry s) r spot to fits = (tt, tt)
    carried_fits finding.NoEntry r spot to fits = (tt, tt)
    carried_fits (finding.Found bytes next) r spot to fits = (tt, tt)
    carried_fits (finding.Write w) r spot to fits = read_first (bytes_at 128 spot.buffer) _ (λ bytes. (fits, tt))
    carried_fits (finding.Make key) r spot to fits = (tt, tt)
    carried_fits (finding.Rename old new) r spot to fits = (fits, tt)
    carried_fits (finding.Length n) r spot to fits = (tt, tt)
    carried_fits finding.NoLength r spot to fits = (tt, tt)
    carried_fits (finding.RandomPlace place) r spot to fits = (tt, tt)

    asked_first : (t : FileTree Finding) (r : Regs) (spot : Spot) (to : ℕ) → FitsFinding (result_of of_files t) → Fits (result_of f (bind_files t (λ x. call_with_finding x r spot to)))
    asked_first t r spot to fits = subst Fits (sym (result-files f (λ x. call_with_finding x r spot to) t)) (carried_fits (result_of of_files t) r spot to fits)

    with_drive : (length : ℕ) (r : Regs) (spot : Spot) (k : Block → ℕ → SystemTree SystemEnd) → ((b : Block) (to : ℕ) → Fits (result_of f (k b to))) → Fits (result_of f (call_with_block length r spot k))
    with_drive length r spot k fits = read_first (Cell (word r.e r.d) Done) (λ dr. call_on_drive length r spot dr k (drive_of_byte spot.drive dr)) (λ dr. by_drive dr (drive_of_byte spot.drive dr)) where
      by_drive : (dr : ℕ) (o : Option Drive) → Fits (result_of f (call_on_drive length r spot dr k o))
      by_drive dr None = (tt, refl)
      by_drive dr (Some drive) = read_first (block_reading drive dr length (word r.e r.d)) (λ b. bind_reading (word_at r.sp Done) (λ to. k b to)) (λ b. read_first (word_at r.sp Done) (λ to. k b to) (λ to. fits b to))

    desk_fits : (e : CallEnd) → Fits (e, Unchanged)
    desk_fits (Completed r spot bytes written) = (tt, tt)
    desk_fits (calls.Stopped cause) = (tt, refl)

    by_function : (n : ℕ) (function : SystemFunction) (r : Regs) (spot : Spot) → Fits (result_of f (call_of_system n function r spot))
    by_function n (OfFile x) r spot = with_drive (block_length x) r spot (λ b to. bind_files (finding_of x b) (λ y. call_with_finding y r spot to)) (λ b to. asked_first (finding_of x b) r spot to (found_fits of_files h x b))
    by_function n SearchNext r spot =
        read_first (word_at r.sp Done) (λ to. bind_files (search_next spot.search) (λ x. call_with_finding x r spot to)) (λ to. asked_first (search_next spot.search) r spot to (next_found_fits of_files h spot.search))
    by_function n DeleteFile r spot =
        with_drive 33 r spot (λ b to. bind_files (deletion b) (λ names. return_with (deletion_value names) r spot to [] (Deleted names)))
        (λ b to. subst Fits (sym (result-files f (λ names. return_with (deletion_value names) r spot to [] (Deleted names)) (deletion b))) (tt, tt))
    by_function n OfDesk r spot = subst Fits (sym (result-state f (λ e. Return (e, Unchanged)) (calls.console_call n r spot))) (desk_fits _)

    pub call_fits : (n : ℕ) (r : Regs) (spot : Spot) → Fits (result_of f (call n r spot))
    unfolding call
    call_fits n r spot = by_function n (system_function r.c) r spot

    called_fits : (e : CallEnd) (change : FileChange) → IsFit change → FitsReached (step_end_with e change)
    called_fits (Completed r spot bytes written) change fits = fits
    called_fits (calls.Stopped cause) change fits = tt

    instruction_fits : (spot : Spot) (e : end.End) → FitsReached (step_end_of spot e)
    instruction_fits spot (end.Went r writes) = tt
    instruction_fits spot end.Halt = tt
    instruction_fits spot (end.Undefined byte) = tt

    next_fits : (c : Core) → FitsReached (result_of f (next c))
    unfolding next
    next_fits c = by (c.regs.pc == 0xff03) (c.regs.pc == 0xfe06) (nat_le 0xfe00 c.regs.pc) where
      by : (warm entry area : Bool) → FitsReached (result_of f (cond warm (Return (Stopped WarmBoot)) (cond entry (map_result step_end_of_call (call script_limit c.regs c.desk.spot))
          (cond area (Return (Stopped (SystemArea c.regs.pc))) (bind_reading (instruction c.regs) (λ e. Return (step_end_of c.desk.spot e)))))))
      by true entry area = tt
      by false true area = subst FitsReached (sym (result_of-returning f step_end_of_call (call script_limit c.regs c.desk.spot))) (called_fits _ _ (call_fits script_limit c.regs c.desk.spot).0)
      by false false true = tt
      by false false false = subst FitsReached (sym (result-reading f (λ e. Return (step_end_of c.desk.spot e)) (instruction c.regs))) (instruction_fits c.desk.spot _)

-- ---- a run

-- The answers of the state, with answers about files from the current files.
abbrev told : Session → PartialState → SystemAnswers
told s st (OfState q) = laid st.own (session_answers s) (OfState q)
told s st (OfFiles q) = file_answers s.files st.own.files q

told_alike : (s : Session) (st : PartialState) → AreSoundOwnFiles s.files st.own.files → (q : SystemQuestion) → laid st.own (session_answers s) q ≡ told s st q
told_alike s st sound (OfState q) = refl
told_alike s st sound (OfFiles q) = result_of-asking_host (session_answers s) (passing.host_tree st.own.files q) ∙ answers_are s.files st.own.files sound q

pub reached_fits : (s : Session) (st : PartialState) → AreSoundOwnFiles s.files st.own.files → FitsReached s.files st.own.files (result_of (laid st.own (session_answers s)) (next st.core))
reached_fits s st sound = subst (FitsReached s.files st.own.files) (sym (same_everywhere (laid st.own (session_answers s)) (told s st) (next st.core) (told_alike s st sound))) (next_fits s.files st.own.files (told s st) (λ q. refl) st.core)

step_sound : (s : Session) (st onward : PartialState) (e : StepEnd) → AreSoundOwnFiles s.files st.own.files → FitsReached s.files st.own.files e → outcome_with st e ≡ Step onward → AreSoundOwnFiles s.files onward.own.files
step_sound s st onward (Went r spot bytes wrote change) sound fits e =
    let same : record { core = record { regs = r; desk = desk_with st.core.desk spot bytes }; own = record { cells = with_cells st.own.cells wrote.cells; files = own_after_change change st.own.files } } ≡ onward = cc in
    subst (λ (x : PartialState). AreSoundOwnFiles s.files x.own.files) same (stays_sound s.files st.own.files change (fitting s.files st.own.files change fits) sound)
step_sound s st onward (Stopped cause) sound fits e = absurd (cc)

-- What was done to the files is sound at each state of a run.
pub sound_after : (s : Session) (n : ℕ) (st : PartialState) → after (session_answers s) n ≡ Some st → AreSoundOwnFiles s.files st.own.files
unfolding dependence.outcome
sound_after s =
    holds_after (outcome (session_answers s)) start (λ (st : PartialState). AreSoundOwnFiles s.files st.own.files) (starts_sound s.files)
    (λ n b st at sound went. step_sound s b st (result_of (laid b.own (session_answers s)) (next b.core)) sound (reached_fits s b sound) went)

pub sound_reached : (s : Session) (st : PartialState) → IsReached (session_answers s) st → AreSoundOwnFiles s.files st.own.files
sound_reached s st r = sound_after s r.0 st r.1
