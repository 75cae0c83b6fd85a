-- How the program ends, without the steps that it executed.
use Rattle.std.proofs.Common.{ℕ, List, Option, Some, None, inl, inr}
use Rattle.std.specs.Borrow.{Bor}
use Rattle.command_words.specs.declared.words.Words.{Words}
use Rattle.faults.specs.declared.fault.Fault.{Fault}
use Rattle.requests.specs.World.{World}
use Rattle.replay.specs.RunnerView.{RunnerView}
use Rattle.requests.specs.Programs.{Does, Ends, EndsWell, Fails, FaultOf}
use Rattle.streams.specs.Streams.{Output}
use Rattle.cpmrun.specs.Ends.{WritesReplay, by_text, cpmrun, task_of}
use Rattle.cpmrun.specs.MeteredEnds.{WritesReplayBy, by_runner, metered}

replay_without_steps : (source : Option (List ℕ)) (first : RunnerView) (before after : Output) (steps : ℕ) → WritesReplayBy source first before after steps → WritesReplay source first.session before after
replay_without_steps source first before after steps w =
    record { last = w.last.session; bytes = w.bytes; text = w.text; count = w.count; whole = w.whole; written = w.written; replayed = w.replayed }

module _ (steps : ℕ) (before after : World) where
  does : (w : Words) (o : Option (Bor (List ℕ))) (status : ℕ) → Does (task_of (by_runner steps) w o) status before after → Does (task_of by_text w o) status before after
  does w None status d = d
  does w (Some path) status d =
      let (exits, done) = d.done in
      let (err, files, replayed) = done in
      record { allowed = d.allowed; s = d.s; of = d.of; listings = d.listings; listed = d.listed; done = (exits, (err, files, replay_without_steps _ _ _ _ _ replayed)) }

  fails : (w : Words) (o : Option (Bor (List ℕ))) (f : Fault) → Fails (task_of (by_runner steps) w o) before after f → Fails (task_of by_text w o) before after f
  fails w None f h = h
  fails w (Some path) f h = h

  well : (words : List (List ℕ)) (status : ℕ) → EndsWell (metered steps) words status before after → EndsWell cpmrun words status before after
  well words status e = record {
    failed = e.failed;
    did = elim e.did [
      | inl informs ↦ inl informs
      | inr done ↦ let (w, are, d) = done in inr (w, are, does w w.edits status d)
    ];
  }

  has_fault : (words : List (List ℕ)) (f : Fault) → FaultOf (metered steps) words before after f → FaultOf cpmrun words before after f
  has_fault words f (inl h) = inl h
  has_fault words f (inr (inl h)) = inr (inl h)
  has_fault words f (inr (inr (w, are, h))) = inr (inr (w, are, fails w w.edits f h))

  pub without_steps : (words : List (List ℕ)) (status : ℕ) → Ends (metered steps) words status before after → Ends cpmrun words status before after
  without_steps words status e = record {
    ends = elim e.ends [
      | inl h ↦ inl (well words status h)
      | inr h ↦ inr (record { fault = h.fault; comes = has_fault words h.fault h.comes; failed = h.failed; reported = h.reported })
    ];
    done = λ zero. well words status (e.done zero);
  }
