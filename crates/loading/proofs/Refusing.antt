-- A session that is made or refused, by the words.
use Rattle.std.proofs.Common.{◌≡◌, ◌∙◌, ℕ, Bool, true, false, cond, subst, List, Some, None, Option, Result, Ok, Err, IfErr, IfSome, inl, inr, refl, sym, ap}
use Rattle.std.specs.Prelude.{MatchOption}
use Rattle.std.specs.Borrow.{Bor}
use Rattle.command_words.specs.CommandLine.{text_of}
use Rattle.command_words.specs.declared.words.SessionWords.{SessionWords}
use Rattle.hostfiles.specs.Hosts.{Host}
use Rattle.machine.specs.Inputs.{Session}
use Rattle.machine.specs.Session.{session_or_refusal}
use Rattle.folders.specs.FileSystem.{FileBytes, Path, StoredFiles}
use Rattle.folders.specs.Folders.{AreFromFolders, FailsFolders}
use Rattle.folders.specs.declared.fault.Failure.{Failure}
use Rattle.folders.specs.declared.fault.Failure.TheVariants as failure
use Rattle.folders.specs.declared.fault.Failure.TheVariants.{AtFault}
use Rattle.faults.specs.Faults.{of_failure}
use Rattle.loading.specs.Typed.{IsTyped}
use Rattle.faults.specs.declared.fault.Fault.{Fault}
use Rattle.loading.specs.declared.loading.Inputs.{Inputs}
use Rattle.loading.specs.Loading.{AreInputsOf, FailsToLoad, HasTypedScript, IsLoadedFrom, IsProgramOf, IsReadFaultIfAny, IsReadFaultOf, IsScriptAt, IsScriptOf, IsTypedFault, IsTypedScript, MadeOrRefused}

-- A refusal of the session is a refusal of the words.
pub refused_of_words : (stored : StoredFiles) (w : SessionWords) (program : List ℕ) (files : Host) (script : List ℕ) (r : Result Session Fault)
    → IsProgramOf stored.bytes w program → AreFromFolders stored w.files files → IsScriptOf stored.bytes w script
    → MadeOrRefused (session_or_refusal program w.tail.now files script w.limit) r → IfErr r (FailsToLoad stored w)
refused_of_words stored w program files script (Ok s) p a b h = tt
refused_of_words stored w program files script (Err f) p a b (n, is, h) =
    rw is (record { program = program; files = files; script = script; of_program = p; from_folders = a; of_script = b; refused = h })

-- The script of a text, or of a file if there is no text.
pub typed_known : (stored : Option FileBytes) (w : SessionWords) (script : List ℕ) → IsTypedScript w.typed (Some script) → IsScriptOf stored w script
typed_known stored w script h = by w.typed h where
  by : (o : Option (Bor (List ℕ))) → IsTypedScript o (Some script) → MatchOption o (IsScriptAt stored (text_of w.console) script) (λ text. IsTyped text.now script)
  by None h = absurd h
  by (Some text) h = h

pub none_typed : (o : Option (Bor (List ℕ))) → IsTypedScript o None → o ≡ None
none_typed None h = refl
none_typed (Some text) h = absurd h

-- Without a text, the script is read.
pub untyped_known : (stored : Option FileBytes) (w : SessionWords) (script : List ℕ) → IsTypedScript w.typed None → IsScriptAt stored (text_of w.console) script → IsScriptOf stored w script
untyped_known stored w script none h = rw (none_typed w.typed none) h

pub well_typed : (w : SessionWords) (o : Option (List ℕ)) → IsTypedScript w.typed o → HasTypedScript w
well_typed w o h = by w.typed o h where
  by : (t : Option (Bor (List ℕ))) (o : Option (List ℕ)) → IsTypedScript t o → IfSome t (λ text. (script : List ℕ) × IsTyped text.now script)
  by None o h = tt
  by (Some text) None h = absurd h
  by (Some text) (Some script) h = (script, h)

-- If the text of the script has a bad escape, no session is loaded.
pub badly_typed : (stored : StoredFiles) (w : SessionWords) (f : Fault) → MatchOption w.typed ⊥ (λ text. IsTypedFault text f) → FailsToLoad stored w f
badly_typed stored w f h = by w.typed refl f h where
  by : (o : Option (Bor (List ℕ))) → w.typed ≡ o → (f : Fault) → MatchOption o ⊥ (λ text. IsTypedFault text f) → FailsToLoad stored w f
  by None e f h = absurd h
  by (Some text) e f (inl is) = rw is tt
  by (Some text) e f (inr (is, bad)) = rw is (e, bad)

-- If the program cannot be read, no session is loaded.
pub program_unread : (stored : StoredFiles) (w : SessionWords) (f : Fault) → HasTypedScript w → IsReadFaultOf w.program.now f → FailsToLoad stored w f
program_unread stored w f t (inl is) = rw is tt
program_unread stored w f t (inr (p, is, h)) = rw is (t, inl h)

-- If the folders cannot be read, no session is loaded.
pub folders_unread : (stored : StoredFiles) (w : SessionWords) (inputs : Inputs) (f : Failure) → AreInputsOf stored.bytes w inputs → FailsFolders stored w.files f
    → FailsToLoad stored w (of_failure f)
folders_unread stored w inputs (AtFault fault) i h = (i.well_typed, (inputs.program.items, i.program), (inputs.script.items, i.script), h)
folders_unread stored w inputs failure.OutOfMemory i h = tt

-- If the script cannot be read, no session is loaded.
pub script_unread : (stored : StoredFiles) (w : SessionWords) (program : List ℕ) (f : Fault) → w.typed ≡ None → IsProgramOf stored.bytes w program
    → IsReadFaultIfAny (text_of w.console) f → FailsToLoad stored w f
script_unread stored w program f none of h = by_path (text_of w.console) refl h where
  by_fault : (path : Path) → text_of w.console ≡ Some path → (f : Fault) → IsReadFaultOf path f → FailsToLoad stored w f
  by_fault path e f (inl is) = rw is tt
  by_fault path e f (inr (p, is, h)) = rw is (rw none tt, inr ((program, of), none, e ∙ ap Some (sym h)))

  by_path : (o : Option Path) → text_of w.console ≡ o → IsReadFaultIfAny o f → FailsToLoad stored w f
  by_path None e h = absurd h
  by_path (Some path) e h = by_fault path e f h

-- A session that is made has the parts from which it is made.
parts : (p t : List ℕ) (f : Host) (r : List ℕ) (l : ℕ) (s : Session) (a b c d e : Bool)
    → cond {A = Result Session ℕ} a (Err 1) (cond b (Err 2) (cond c (Err 3) (cond d (Err 4) (cond e (Err 5) (Ok (record { program = p; tail = t; files = f; script = r; limit = l })))))) ≡ Ok s
    → s ≡ record { program = p; tail = t; files = f; script = r; limit = l }
parts p t f r l s true b c d e h = cc
parts p t f r l s false true c d e h = cc
parts p t f r l s false false true d e h = cc
parts p t f r l s false false false true e h = cc
parts p t f r l s false false false false true h = cc
parts p t f r l s false false false false false h = cc

-- The session of parts of the words is loaded.
pub loaded_of_words : (stored : StoredFiles) (w : SessionWords) (program tail : List ℕ) (files : Host) (script : List ℕ) (s : Session)
    → IsProgramOf stored.bytes w program → tail ≡ w.tail.now → AreFromFolders stored w.files files → IsScriptOf stored.bytes w script
    → session_or_refusal program tail files script w.limit ≡ Ok s → IsLoadedFrom stored w s
loaded_of_words stored w program tail files script s p t a b h =
    subst (IsLoadedFrom stored w) (sym (parts program tail files script w.limit s _ _ _ _ _ h))
    (record { program = p; tail = t; files = a; script = b; limit = refl })
