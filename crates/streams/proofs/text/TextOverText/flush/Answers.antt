use Rattle.std.proofs.Common.{◌≡◌, ◌≤◌, ◌++◌, false, ap, arith, append-nil, length, sym, take}
use Rattle.std.proofs.KnownBytes.{Appends-trans}
use Rattle.streams.proofs.Texts.{all_more, prefix_more}
use Rattle.streams.proofs.text.TextOverText.flush.Goals as goal

pub invariant_of-self-2 : goal.invariant_of-self-2
invariant_of-self-2 g c =
    let s = c.args.self.now in
    let w = c.write_counted-count in
    let buffer = s.buffer.items in
    let n = w.result.0 in
    let none = rw c.if-self.false at s.failures in
    let said : s.said.numbers ≡ s.sent.numbers ++ buffer = sym (s.all c.if-self.false) in
    let size = ap length c.as_slice.ensures.value in
    let within : n ≤ length buffer = omega (arith, w.ensures.count, size) in
    let whole : w.result.1 ≡ false → n ≡ length buffer = λ h. omega (arith, w.ensures.all h, size) in
    let sent : c.with_piece.result.numbers ≡ s.sent.numbers ++ take n buffer = rw c.as_slice-2.ensures.value at c.with_piece.ensures in
    record {
      bytes = record { bytes = rw sent (Appends-trans _ _ _ _ _ s.bytes.bytes (rw c.as_slice.ensures.value at w.ensures.bytes)) };
      failures = omega (arith, w.ensures.failures, none);
      prefix = rw (sent, said) (prefix_more s.sent.numbers buffer n within);
      all = λ h. rw (c.clear-2.ensures, append-nil, sent, said) (all_more s.sent.numbers buffer n (whole h));
    }
