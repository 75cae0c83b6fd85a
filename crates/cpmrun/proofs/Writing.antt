-- What a replay wrote, and what it read.
use Rattle.std.proofs.Common.{◌≡◌, ℕ, List, ◌++◌, append-nil, refl, sym, ap, subst, ◌∙◌, ◌⊎◌, inl, inr, Option, Some, None, Result, Ok, Err, IfErr, IfSome, OnOk}
use Rattle.std.specs.Io.KnownBytes.{Consumes, IsAtEnd}
use Rattle.machine.specs.Inputs.{Session}
use Rattle.edit_lines.specs.declared.ending.Ending.{Ending}
use Rattle.edit_lines.specs.declared.ending.ReplayFault.{ReplayFault}
use Rattle.edit_lines.specs.Effects.{HasEffects}
use Rattle.edit_lines.specs.Faults.{AreLines, EndsReplay, replay_view}
use Rattle.replay.specs.RunnerView.{RunnerView}
use Rattle.streams.specs.Streams.{Output}
use Rattle.folders.specs.FileSystem.{Path, FileBytes, Opens, text_at}
use Rattle.faults.specs.declared.fault.Fault.{Fault}
use Rattle.loading.specs.Loading.{IsReadFaultOf}
use Rattle.cpmrun.specs.Ends.{BreaksOffWith, BreaksReplay}
use Rattle.cpmrun.specs.MeteredEnds.{WritesReplayBy}

-- A reader that is read to its end returned all of its bytes.
all_read : (a d : Option (List ℕ)) (bytes : List ℕ) → Consumes a d bytes → IsAtEnd d → IfSome a (λ all. all ≡ bytes)
all_read None d bytes c e = tt
all_read (Some all) None bytes c e = absurd c
all_read (Some all) (Some rest) bytes c e = c ∙ ap (λ r. bytes ++ r) e ∙ append-nil bytes

-- What a replay by this runner does, by its result.
abbrev pub EndsBy : RunnerView → ℕ → RunnerView → ℕ → Option (List ℕ) → Option (List ℕ) → Output → Output → Result Ending ReplayFault → Type 0
EndsBy first begun now steps a left before after r = (bytes : List ℕ) × (done : List (List ℕ)) × (next : List (List ℕ)) × Consumes a left bytes × AreLines left bytes done next
    × EndsReplay left bytes done next (replay_view first.session before) (replay_view now.session after) r × HasEffects first begun bytes done now steps r

-- A replay that ended wrote its text, by the runner that it was given.
pub writes_replay : (given first now : RunnerView) (begun steps : ℕ) (a left : Option (List ℕ)) (before after : Output) (r : Result Ending ReplayFault)
    → first ≡ given → begun ≡ 0 → EndsBy first begun now steps a left before after r → OnOk r (WritesReplayBy a given before after steps)
writes_replay given first now begun steps a left before after (Ok e) same none (bytes, done, next, consumed, lines, (end, are, wrote), effects) = record {
  last = now;
  bytes = bytes;
  text = wrote.text;
  count = e.lines;
  whole = all_read a left bytes consumed end;
  written = wrote.written;
  replayed = rw (← same, are) wrote.replays;
  effects = rw (← same, ← none, are) effects;
}
writes_replay given first now begun steps a left before after (Err f) same none h = tt

pub breaks_replay : (given first now : RunnerView) (begun steps : ℕ) (a left : Option (List ℕ)) (before after : Output) (r : Result Ending ReplayFault)
    → first ≡ given → EndsBy first begun now steps a left before after r → IfErr r (λ f. BreaksOffWith f a given.session before after)
breaks_replay given first now begun steps a left before after (Ok e) same h = tt
breaks_replay given first now begun steps a left before after (Err f) same (bytes, done, next, consumed, lines, faults, effects) =
    rw (← same) (record { left = left; last = now.session; bytes = bytes; done = done; next = next; read = consumed; lines = lines; leaves = faults })

-- The bytes of a reader are the bytes of the file that it was opened for, if these are known.
pub of_file : (files : Option FileBytes) (path : Path) (left : Option (List ℕ)) → Opens files path left → (text_at files path ≡ left) ⊎ (text_at files path ≡ None)
of_file None path left o = inr refl
of_file (Some stored) path left o = inl (sym o.0)

pub writes_file : (files : Option FileBytes) (path : Path) (left : Option (List ℕ)) (first : RunnerView) (before after : Output) (steps : ℕ) → Opens files path left
    → WritesReplayBy left first before after steps → WritesReplayBy (text_at files path) first before after steps
writes_file files path left first before after steps o w = elim (of_file files path left o) [
  | inl e ↦ subst (λ source. WritesReplayBy source first before after steps) (sym e) w
  | inr e ↦ subst (λ source. WritesReplayBy source first before after steps) (sym e)
      (record { last = w.last; bytes = w.bytes; text = w.text; count = w.count; whole = tt; written = w.written; replayed = w.replayed; effects = w.effects })
]

pub breaks_file : (files : Option FileBytes) (path : Path) (left : Option (List ℕ)) (f : ReplayFault) (s : Session) (before after : Output) → Opens files path left
    → BreaksOffWith f left s before after → BreaksOffWith f (text_at files path) s before after
breaks_file files path left f s before after o b = elim (of_file files path left o) [
  | inl e ↦ subst (λ source. BreaksOffWith f source s before after) (sym e) b
  | inr e ↦ subst (λ source. BreaksOffWith f source s before after) (sym e) (record { left = b.left; last = b.last; bytes = b.bytes; done = b.done; next = b.next; read = tt; lines = b.lines; leaves = b.leaves })
]

-- If the file of edit lines cannot be opened, nothing is written.
pub unopened : (path : List ℕ) (source : Option (List ℕ)) (s : Session) (out : Output) (f : Fault) → IsReadFaultOf path f → BreaksReplay path source s out out f
unopened path source s out f (inl is) = rw is (inl refl)
unopened path source s out f (inr (p, is, h)) = rw is (h, inl refl)
