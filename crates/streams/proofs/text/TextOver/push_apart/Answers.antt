use Rattle.std.proofs.Common.{◌≡◌, ◌++◌, [], ap, arith, append-nil, sym, take, ◌∙◌}
use Rattle.std.proofs.KnownBytes.{Appends-trans}
use Rattle.streams.proofs.Texts.{all_more, on_error, prefix_more}
use Rattle.streams.proofs.text.TextOver.push_apart.Goals as goal

pub invariant_of-self-2 : goal.invariant_of-self-2
invariant_of-self-2 g c =
    let s = c.flush.new.self in
    let w = c.write_counted-count in
    let piece = c.args.piece.now in
    let n = w.result.0 in
    let none = rw c.if-self.false at s.failures in
    let said : s.said.numbers ≡ s.sent.numbers = sym (s.all c.if-self.false) ∙ ap (λ b. s.sent.numbers ++ b) c.flush.ensures.sent ∙ append-nil s.sent.numbers in
    let sent : c.with_piece-2.result.numbers ≡ s.sent.numbers ++ take n piece = c.with_piece-2.ensures in
    let whole : c.with_piece.result.numbers ≡ s.sent.numbers ++ piece = c.with_piece.ensures ∙ ap (λ t. t ++ piece) said in
    let empty : c.try_extend_from_slice.new.self.items ≡ [] = ap (λ b. b.items) (on_error c.try_extend_from_slice.result (sym c.is_ok.ensures.value ∙ c.if-is_ok.false) c.try_extend_from_slice.ensures.err) ∙ c.flush.ensures.sent in
    record {
      bytes = record { bytes = rw sent (Appends-trans _ _ _ _ _ s.bytes.bytes w.ensures.bytes) };
      failures = omega (arith, w.ensures.failures, none);
      prefix = rw (sent, whole) (prefix_more s.sent.numbers piece n w.ensures.count);
      all = λ h. rw (empty, append-nil, sent, whole) (all_more s.sent.numbers piece n (w.ensures.all h));
    }
