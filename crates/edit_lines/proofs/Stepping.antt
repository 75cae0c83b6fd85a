-- Lines that are executed one after the other, and bytes that are taken one after the other.
use Rattle.std.proofs.Common.{◌≡◌, ℕ, ◌+◌, ◌<◌, ◌≤◌, List, [], ◌∷◌, ◌++◌, length, ap, subst, ◌∙◌, arith, append_assoc, length-append, Ok}
use Rattle.std.proofs.lemmas.List.{append-nil}
use Rattle.std.proofs.lemmas.List.Folds.{concat-append}
use Rattle.std.specs.List.{concat}
use Rattle.streams.specs.Streams.{WritesWhole}
use Rattle.streams.proofs.WrittenPieces.{whole_nil, whole_then}
use Rattle.machine.specs.Inputs.{Session}
use Rattle.replay.specs.RunnerView.{RunnerView}
use Rattle.edit_lines.specs.declared.line.Command.{Command}
use Rattle.edit_lines.specs.declared.limits.TheConstants.{LINE_LIMIT, LINES_LIMIT}
use Rattle.edit_lines.specs.EditLine.{EditLine}
use Rattle.edit_lines.specs.Effects.{Effect, Effects, none as no_effect, more as more_effects}
use Rattle.edit_lines.specs.Pieces.{pieces, unless_empty}
use Rattle.edit_lines.specs.Progress.{Executes, none, more, ExecutesLine, ReplayState, Takes}
use Rattle.edit_lines.specs.Replay.{ExecutesLines, none as no_line, more as more_lines, reply, session_after}
use Rattle.edit_lines.proofs.Cutting.{cut_beside, cut_here}
use Rattle.edit_lines.proofs.Executing.{session_after_effect}

-- ---- executed lines

pub Executes-append : (n : ℕ) (s t u : ReplayState) (ls ms : List (List ℕ)) → Executes n s ls t → (m : ℕ) → m ≡ n + length ls → Executes m t ms u
    → Executes n s (ls ++ ms) u
Executes-append n s t u [] ms none m e next = let same : m ≡ n = omega (arith, e) in subst (λ k. Executes k s ms u) same next
Executes-append n s t u (l ∷ ls) ms (more short h rest) m e next =
    more short h (Executes-append (n + 1) _ t u ls ms rest m (omega (arith, e)) next)

-- No more lines are executed than a text may have.
pub few_lines : (n : ℕ) (s t : ReplayState) (ls : List (List ℕ)) → Executes n s ls t → n ≤ LINES_LIMIT → n + length ls ≤ LINES_LIMIT
few_lines n s t [] none few = omega (arith, few)
few_lines n s t (l ∷ ls) (more short h rest) few = let again = few_lines (n + 1) _ t ls rest h.1 in omega (arith, again)

-- The replies to executed lines.
pub replies_to : (n : ℕ) (s t : ReplayState) (ls : List (List ℕ)) → Executes n s ls t
    → (replies : List (List ℕ)) × ExecutesLines s.runner.session ls replies t.runner.session × WritesWhole s.output t.output (concat replies)
replies_to n s t [] none = ([], no_line, whole_nil s.output)
replies_to n s t (l ∷ ls) (more short h rest) =
    let again = replies_to (n + 1) _ t ls rest in
    let r = reply s.runner.session h.0 in
    (r ∷ again.0, more_lines h.0 short h.2 (rw (← (session_after_effect h.0 _ _ _ _ h.3.0)) again.1), whole_then r (concat again.0) h.3.1 again.2)

-- The effects of executed lines.
pub effects_of : (n : ℕ) (s t : ReplayState) (ls : List (List ℕ)) → Executes n s ls t → Effects s.runner s.meter ls t.runner t.meter
effects_of n s t [] none = no_effect
effects_of n s t (l ∷ ls) (more short h rest) = more_effects h.0 h.2 h.3.0 (effects_of (n + 1) _ t ls rest)

-- A last line without an end is executed if it is not empty.
pub last_executed : (n m : ℕ) (s t : ReplayState) (line : List ℕ) → 0 < length line → length line ≤ LINE_LIMIT → m ≡ n + 1
    → ExecutesLine {U = Unit {0}} (n + 1) line s t (Ok tt) → (m ≡ n + length (unless_empty line)) × Executes n s (unless_empty line) t
last_executed n m s t [] some short e h = absurd (omega arith)
last_executed n m s t (b ∷ line) some short e h = (e, more short h none)

-- ---- one more line

pub Effects-snoc : {r s t : RunnerView} {k m n : ℕ} {ls : List (List ℕ)} (l : List ℕ) (c : Command) → Effects r k ls s m → EditLine l c
    → Effect c s m t n → Effects r k (ls ++ l ∷ []) t n
Effects-snoc l c no_effect is e = more_effects c is e no_effect
Effects-snoc l c (more_effects d is' e' rest) is e = more_effects d is' e' (Effects-snoc l c rest is e)

pub ExecutesLines-snoc : {s t : Session} {ls rs : List (List ℕ)} (l : List ℕ) (c : Command) → ExecutesLines s ls rs t → length l ≤ LINE_LIMIT
    → EditLine l c → ExecutesLines s (ls ++ l ∷ []) (rs ++ reply t c ∷ []) (session_after t c)
ExecutesLines-snoc l c no_line short is = more_lines c short is no_line
ExecutesLines-snoc l c (more_lines d short' is' rest) short is = more_lines d short' is' (ExecutesLines-snoc l c rest short is)

pub concat-snoc : (rs : List (List ℕ)) (r : List ℕ) → concat (rs ++ r ∷ []) ≡ concat rs ++ r
concat-snoc rs r = concat-append rs (r ∷ []) ∙ ap (λ x. concat rs ++ x) (append-nil r)

-- ---- taken bytes

pub nothing_taken : (n : ℕ) (s : ReplayState) (line : List ℕ) → Takes n s line [] n s line
nothing_taken n s line = record {
  done = [];
  counted = omega arith;
  executed = none;
  cut = λ text ls e. rw (append-nil text, append-nil ls) e;
}

-- The line continues.
pub part_taken : (n : ℕ) (s : ReplayState) (line bytes : List ℕ) → pieces 10 bytes ≡ bytes ∷ [] → (m : ℕ) (left : List ℕ) → m ≡ n → left ≡ line ++ bytes
    → Takes n s line bytes m s left
part_taken n s line bytes part m left same is = record {
  done = [];
  counted = omega (arith, same);
  executed = none;
  cut = λ text ls e. rw (append-nil ls, is) (cut_beside text ls line e bytes part);
}

-- The line ends and is executed.
pub line_taken : (n : ℕ) (s t : ReplayState) (line : List ℕ) → length line ≤ LINE_LIMIT → ExecutesLine {U = Unit {0}} (n + 1) line s t (Ok tt)
    → (m : ℕ) (left : List ℕ) → m ≡ n + 1 → left ≡ [] → Takes n s line (10 ∷ []) m t left
line_taken n s t line short h m left next empty = record {
  done = line ∷ [];
  counted = next;
  executed = more short h none;
  cut = λ text ls e. rw empty (cut_here text ls line e);
}

pub Takes-trans : (n m k : ℕ) (s t u : ReplayState) (line held left bytes others : List ℕ) → Takes n s line bytes m t held → Takes m t held others k u left
    → Takes n s line (bytes ++ others) k u left
Takes-trans n m k s t u line held left bytes others p q = record {
  done = p.done ++ q.done;
  counted = omega (arith, p.counted, q.counted, length-append p.done q.done);
  executed = Executes-append n s t u p.done q.done p.executed m p.counted q.executed;
  cut = λ text ls e. rw (← (append_assoc text bytes others), ← (append_assoc ls p.done q.done)) (q.cut (text ++ bytes) (ls ++ p.done) (p.cut text ls e));
}
