-- How a replay ends, by the line that it does not execute.
use Rattle.std.proofs.Common.{◌≡◌, ℕ, ◌+◌, ◌*◌, ◌≤◌, ◌<◌, List, [], ◌∷◌, ◌++◌, length, refl, sym, ap, subst, ◌∙◌, arith, append_assoc, length-append, inl, inr, Option, Some, None, IfSome, Result, Ok, Err, take, unwrap_or}
use Rattle.std.proofs.lemmas.List.{append-nil}
use Rattle.std.specs.List.{concat}
use Rattle.std.proofs.KnownBytes.{Consumes-trans}
use Rattle.std.specs.Io.KnownBytes.{Consumes, IsAtEnd}
use Rattle.edit_lines.specs.declared.ending.Ending.{Ending}
use Rattle.edit_lines.specs.declared.ending.ReplayFault.{ReplayFault}
use Rattle.edit_lines.specs.declared.ending.ReplayFault.TheVariants.{Malformed, LineTooLong, Read, Write, OutOfMemory}
use Rattle.edit_lines.specs.declared.line.Command.TheVariants.{Run}
use Rattle.edit_lines.specs.declared.limits.TheConstants.{LINE_LIMIT}
use Rattle.edit_lines.specs.EditLine.{EditLine}
use Rattle.edit_lines.specs.Effects.{HasEffects}
use Rattle.edit_lines.specs.Faults.{AreLines, AreRead, EndsReplay, Faults, ReplayView, WritesReplies, replay_view}
use Rattle.edit_lines.specs.Pieces.{first_piece, other_pieces, pieces, without_empty_last, unless_empty, lines_of, past_lines}
use Rattle.edit_lines.specs.Progress.{Breaks, Executes, ExecutesLine, FailsAt, ReplayState, Takes}
use Rattle.edit_lines.specs.Replay.{EndsAt, Finished, MalformedAt, ReplayEnd, TooLongAt, none, reply}
use Rattle.streams.proofs.WrittenPieces.{whole_nil}
use Rattle.edit_lines.proofs.Cutting.{first_piece-longer, lines_of-append, lines_of-pieces, one_line, past_lines-pieces, past_more_lines}
use Rattle.edit_lines.proofs.Executing.{session_after_effect, session_left}
use Rattle.edit_lines.proofs.Stepping.{Effects-snoc, Executes-append, ExecutesLines-snoc, Takes-trans, concat-snoc, effects_of, few_lines, replies_to}

abbrev pub view_of : ReplayState → ReplayView
view_of s = replay_view s.runner.session s.output

-- What a replay from this state leaves, by its result; `a` was left of the reader at first, and `left` at last.
abbrev pub Ended : ReplayState → Option (List ℕ) → Option (List ℕ) → ReplayState → Result Ending ReplayFault → Type 0
Ended start a left new r = (bytes : List ℕ) × (done : List (List ℕ)) × (next : List (List ℕ)) × Consumes a left bytes × AreLines left bytes done next
    × EndsReplay left bytes done next (view_of start) (view_of new) r × HasEffects start.runner start.meter bytes done new.runner new.meter r

is_rest : (left : Option (List ℕ)) → IfSome left (λ all. all ≡ unwrap_or left [])
is_rest None = tt
is_rest (Some all) = refl

no_rest : (left : Option (List ℕ)) → IsAtEnd left → IfSome left (λ all. all ≡ [])
no_rest None end = tt
no_rest (Some all) end = end

-- Nothing was read, and nothing done.
pub nothing_done : (left : Option (List ℕ)) (view : ReplayView)
    → AreLines left [] [] (lines_of (unwrap_or left [])) × Faults [] [] (lines_of (unwrap_or left [])) view view OutOfMemory
nothing_done left view = (
  record { rest = unwrap_or left []; whole = is_rest left; cut = refl; read = ([], refl); near = omega arith },
  (
    record {
      text = [];
      replays = record { done = []; left = []; replies = []; cut = refl; few = omega arith; executed = none; written = refl; ends = (refl, refl) };
      written = whole_nil view.output;
    },
    inl refl,
  ),
)

-- A line that is too long is the first of what is left, whatever follows.
ends_long : (n k : ℕ) → k ≡ n + 1 → (q : List ℕ) (qs : List (List ℕ)) → LINE_LIMIT < length q → EndsAt n (without_empty_last (q ∷ qs)) (TooLongAt k)
ends_long n k is [] qs h = absurd (omega arith)
ends_long n k is (b ∷ q) [] h = (is, h)
ends_long n k is (b ∷ q) (p ∷ qs) h = (is, h)

module _ (start last : ReplayState) (done : List (List ℕ)) (executed : Executes 0 start done last) where
  -- The executed lines, if the replay of these lines and others has this end.
  writes_to : (lines next : List (List ℕ)) → lines ≡ done ++ next → (end : ReplayEnd) → EndsAt (length done) next end
      → WritesReplies (view_of start) lines (view_of last) end
  writes_to lines next is end ends = let replied = replies_to 0 start last done executed in record {
    text = concat replied.0;
    replays = record {
      done = done;
      left = next;
      replies = replied.0;
      cut = is;
      few = let few = few_lines 0 start last done executed (omega arith) in omega (arith, few);
      executed = replied.1;
      written = refl;
      ends = ends;
    };
    written = replied.2;
  }

  pub writes_all : WritesReplies (view_of start) done (view_of last) (Finished (length done))
  writes_all = writes_to done [] (sym (append-nil done)) (Finished (length done)) (refl, refl)

  -- After them, this line failed; `after` are the lines after it.
  module _ (a left : Option (List ℕ)) (bytes : List ℕ) (consumed : Consumes a left bytes) (line rest : List ℕ) (after : List (List ℕ))
      (whole : IfSome left (λ all. all ≡ rest)) (cut : lines_of (bytes ++ rest) ≡ done ++ line ∷ after) (read : AreRead bytes (done ++ line ∷ []))
      (near : length (past_lines (length done) bytes) ≤ 2 * LINE_LIMIT) (short : length line ≤ LINE_LIMIT) (new : ReplayState) where
    before : AreLines left bytes done (line ∷ after)
    before = record { rest = rest; whole = whole; cut = cut; read = (line ∷ read.0, read.1 ∙ append_assoc done (line ∷ []) read.0); near = near }

    with_line : AreLines left bytes (done ++ line ∷ []) after
    with_line = record {
      rest = rest;
      whole = whole;
      cut = cut ∙ sym (append_assoc done (line ∷ []) after);
      read = read;
      near =
          let fewer = past_more_lines (length done) (length (done ++ line ∷ [])) bytes (omega (arith, length-append done (line ∷ []))) in
          omega (arith, near, fewer);
    }

    pub line_fails : (f : ReplayFault) → ExecutesLine {U = Unit {0}} (length done + 1) line last new (Err f) → Ended start a left new (Err f)
    unfolding writes_all writes_to
    line_fails (Malformed k) h = rw h.2 (
      bytes,
      done,
      line ∷ after,
      consumed,
      before,
      (h.0, writes_to (done ++ line ∷ after) (line ∷ after) refl (MalformedAt k) (h.0, short, rw h.0 h.1)),
      effects_of 0 start last done executed,
    )
    line_fails Write h =
        let replied = replies_to 0 start last done executed in
        let all = done ++ line ∷ [] in
        let count : length all ≡ length done + 1 = omega (arith, length-append done (line ∷ [])) in (
          bytes,
          all,
          after,
          consumed,
          with_line,
          record {
            earlier = done;
            cut = (line, refl);
            between = view_of last;
            whole = writes_all;
            reply = reply last.runner.session h.0;
            replays = record {
              done = all;
              left = [];
              replies = replied.0 ++ reply last.runner.session h.0 ∷ [];
              cut = sym (append-nil all);
              few = omega (arith, count, h.1);
              executed = rw (session_after_effect h.0 _ _ _ _ h.3.0) (ExecutesLines-snoc line h.0 replied.1 short h.2);
              written = sym (concat-snoc replied.0 (reply last.runner.session h.0));
              ends = (refl, refl);
            };
            part = h.3.1;
          },
          Effects-snoc line h.0 (effects_of 0 start last done executed) h.2 h.3.0,
        )
    line_fails OutOfMemory h = (
      bytes,
      done,
      line ∷ after,
      consumed,
      before,
      rw (session_left (h.0 ≡ Run) _ _ _ _ h.3.2, h.3.1) (writes_all, inr (line, read, omega (arith, h.1), (h.0, h.2, h.3.0))),
      elim h.3.2 [
        | inl same ↦ inl (rw (same.0, same.1) (effects_of 0 start last done executed))
        | inr cut_short ↦ inr (record {
          before = last.runner;
          metered = last.meter;
          effects = effects_of 0 start last done executed;
          is_run = (line, read, subst (λ c. EditLine line c) cut_short.0 h.2);
          part = cut_short.1;
        })
      ],
    )
    line_fails (LineTooLong k) h = absurd h.3
    line_fails Read h = absurd h.3

  -- After them, these bytes were read, which begin a line.
  module _ (a left : Option (List ℕ)) (taken held : List ℕ) (cut : pieces 10 taken ≡ done ++ held ∷ []) (short : length held ≤ LINE_LIMIT) where
    lines_with : (bytes : List ℕ) → lines_of (taken ++ bytes) ≡ done ++ without_empty_last ((held ++ first_piece 10 bytes) ∷ other_pieces 10 bytes)
    lines_with bytes = lines_of-append taken bytes done held cut

    near_with : (bytes : List ℕ) → length bytes ≤ LINE_LIMIT → length (past_lines (length done) (taken ++ bytes)) ≤ 2 * LINE_LIMIT
    near_with bytes few = rw (past_lines-pieces taken bytes done held cut) (omega (arith, short, few, length-append held bytes))

    -- The bytes that follow begin with the end of the line.
    ended : (bytes rest more : List ℕ) → bytes ≡ 10 ∷ rest → lines_of ((taken ++ bytes) ++ more) ≡ done ++ held ∷ without_empty_last (pieces 10 (rest ++ more))
    ended bytes rest more is =
        rw is (ap lines_of (append_assoc taken (10 ∷ rest) more) ∙ (rw (append-nil held) at (lines_with (10 ∷ (rest ++ more)))))

    going_on : (bytes : List ℕ) → length bytes ≤ LINE_LIMIT
        → AreLines left (taken ++ bytes) done (without_empty_last ((held ++ first_piece 10 (bytes ++ unwrap_or left [])) ∷ other_pieces 10 (bytes ++ unwrap_or left [])))
    going_on bytes few = let rest = unwrap_or left [] in record {
      rest = rest;
      whole = is_rest left;
      cut = ap lines_of (append_assoc taken bytes rest) ∙ lines_with (bytes ++ rest);
      read = (without_empty_last ((held ++ first_piece 10 bytes) ∷ other_pieces 10 bytes), lines_with bytes);
      near = near_with bytes few;
    }

    -- A failed reader.
    pub reading_failed : Consumes a left taken → Ended start a left last (Err Read)
    reading_failed consumed = (
      taken,
      done,
      _,
      consumed,
      rw (append-nil taken) at (going_on [] (omega arith)),
      ((held, cut), writes_all),
      effects_of 0 start last done executed,
    )

    module _ (bytes : List ℕ) (few : length bytes ≤ LINE_LIMIT) (consumed : Consumes a left (taken ++ bytes)) (new : ReplayState) where
      fails_at : (f : ReplayFault) → FailsAt (length done) held bytes last new f → Ended start a left new (Err f)
      fails_at (LineTooLong k) h = let rest = unwrap_or left [] in let on = going_on bytes few in rw h.1 (
        taken ++ bytes,
        done,
        _,
        consumed,
        on,
        (
          h.0,
          writes_to _ _ refl (TooLongAt k) (ends_long (length done) k h.0 _ _
              (omega (arith, h.2, first_piece-longer bytes rest, length-append held (first_piece 10 (bytes ++ rest))))),
        ),
        effects_of 0 start last done executed,
      )
      fails_at f h =
          let rest = h.0.0 in
          let more = unwrap_or left [] in
          line_fails a left (taken ++ bytes) consumed held more (without_empty_last (pieces 10 (rest ++ more))) (is_rest left) (ended bytes rest more h.0.1)
          (_, ap lines_of (sym (append-nil (taken ++ bytes))) ∙ ended bytes rest [] h.0.1 ∙ sym (append_assoc done (held ∷ []) _))
          (near_with bytes few) short new f h.1

    -- The end of the input.
    module _ (end : IsAtEnd left) (consumed : Consumes a left taken) (new : ReplayState) where
      pub last_fails : 0 < length held → (f : ReplayFault) → ExecutesLine {U = Unit {0}} (length done + 1) held last new (Err f) → Ended start a left new (Err f)
      last_fails some f h =
          let here : lines_of taken ≡ done ++ held ∷ [] = lines_of-pieces taken done held cut ∙ ap (λ ls. done ++ ls) (one_line held some) in
          line_fails a left taken consumed held [] [] (no_rest left end) (ap lines_of (append-nil taken) ∙ here)
          ([], here ∙ sym (append-nil (done ++ held ∷ []))) (rw (append-nil taken) at (near_with [] (omega arith))) short new f h

-- The input ends after these bytes, and the last line was executed if it is not empty.
pub all_ends : (start last : ReplayState) (done : List (List ℕ)) → Executes 0 start done last → (a left : Option (List ℕ)) (taken held : List ℕ)
    → pieces 10 taken ≡ done ++ held ∷ [] → length held ≤ LINE_LIMIT → IsAtEnd left → Consumes a left taken
    → (new : ReplayState) (m : ℕ) → m ≡ length done → Executes m last (unless_empty held) new → (e : Ending) → e.lines ≡ m + length (unless_empty held)
    → Ended start a left new (Ok e)
all_ends start last done executed a left taken held cut short end consumed new m same ends e count =
    let all = done ++ unless_empty held in
    let whole = Executes-append 0 start last new done (unless_empty held) executed m (omega (arith, same)) ends in
    let here : lines_of taken ≡ all = lines_of-pieces taken done held cut in
    let lines : e.lines ≡ length all = omega (arith, same, count, length-append done (unless_empty held)) in
    let near = rw (append-nil taken) at (near_with start last done executed a left taken held cut short [] (omega arith)) in
    let fewer = past_more_lines (length done) (length all) taken (omega (arith, length-append done (unless_empty held))) in (
      taken,
      all,
      [],
      consumed,
      record {
        rest = [];
        whole = no_rest left end;
        cut = ap lines_of (append-nil taken) ∙ here ∙ sym (append-nil all);
        read = ([], here ∙ sym (append-nil all));
        near = omega (arith, near, fewer);
      },
      (end, here, rw lines (writes_all start new all whole)),
      effects_of 0 start new all whole,
    )

-- The next part of a line makes it too long.
pub breaks_long : {n m : ℕ} {old last : ReplayState} {line held taken bytes : List ℕ} (rest : List ℕ) → Takes n old line taken m last held → taken ++ rest ≡ bytes
    → (part : List ℕ) → first_piece 10 rest ≡ part → length held ≤ LINE_LIMIT → LINE_LIMIT < length held + length part
    → (f : ReplayFault) → f ≡ LineTooLong (m + 1) → Breaks n old line bytes last f
breaks_long {m = m} {last = last} {held = held} {taken = taken} rest takes split part first short long f is = rw is (record {
  m = m;
  last = last;
  held = held;
  taken = taken;
  rest = rest;
  split = split;
  takes = takes;
  short = short;
  fails = (refl, refl, rw first long);
})

-- A line that ends and fails.
pub ends_there : (n : ℕ) (line rest : List ℕ) (old new : ReplayState) (f : ReplayFault) → ExecutesLine {U = Unit {0}} (n + 1) line old new (Err f)
    → FailsAt n line (10 ∷ rest) old new f
ends_there n line rest old new (LineTooLong k) h = absurd h.3
ends_there n line rest old new f h = ((rest, refl), h)

-- ---- after the bytes that were taken

pub breaks_off : (start : ReplayState) (a left : Option (List ℕ)) (bytes piece : List ℕ) (m : ℕ) (last : ReplayState) (held : List ℕ)
    → Takes 0 start [] bytes m last held → Consumes a left (bytes ++ piece) → length piece ≤ LINE_LIMIT
    → (new : ReplayState) (f : ReplayFault) → Breaks m last held piece new f → Ended start a left new (Err f)
breaks_off start a left bytes piece m last held t consumed few new f b =
    let all = Takes-trans 0 m b.m start last b.last [] held b.held bytes b.taken t b.takes in
    let whole : (bytes ++ b.taken) ++ b.rest ≡ bytes ++ piece = append_assoc bytes b.taken b.rest ∙ ap (λ x. bytes ++ x) b.split in
    let size = ap length b.split in
    let count : b.m ≡ length all.done = omega (arith, all.counted) in
    fails_at start b.last all.done all.executed a left (bytes ++ b.taken) b.held (all.cut [] [] refl) b.short b.rest
    (omega (arith, few, size, length-append b.taken b.rest)) (rw whole consumed) new f (subst (λ k. FailsAt k b.held b.rest b.last new f) count b.fails)

-- Executing a line never fails by its reader.
pub no_read : (m : ℕ) (last : ReplayState) (held piece : List ℕ) (new : ReplayState) (f : ReplayFault) → Breaks m last held piece new f → f ≡ Read → ⊥
no_read m last held piece new f b is = let h = subst (λ x. FailsAt b.m b.held b.rest b.last new x) is b.fails in h.1.3

-- A read of no byte consumes nothing.
pub no_more_bytes : (a b d : Option (List ℕ)) (bytes piece : List ℕ) (n : ℕ) → n ≡ 0 → Consumes a b bytes → Consumes b d (take n piece) → Consumes a d bytes
no_more_bytes a b d bytes piece n e p q =
    let r : Consumes b d [] = rw e at q in
    rw append-nil at (Consumes-trans a b d bytes [] p r)
