use Rattle.std.proofs.Common.{◌==◌, ◌<◌, length, sym, arith, rules}
use Rattle.std.proofs.lemmas.List.Sums.{position_or_len_is}
use Rattle.filenames.proofs.field.find_byte.Goals as goal

pub returns-then-text-place-clause-place : goal.returns-then-text-place-clause-place
returns-then-text-place-clause-place c = sym (position_or_len_is (λ b. b == c.args.byte) c.args.text.now c.loop-place.place 0 (omega arith) c.loop-place.invariant (λ _. search rules))

pub returns-clause-place : goal.returns-clause-place
returns-clause-place c = sym (position_or_len_is (λ b. b == c.args.byte) c.args.text.now (length c.args.text.now) 0 (omega arith)
    (λ k h. let below : k < c.loop-place.place = omega arith in c.loop-place.invariant k below) (λ (h : length c.args.text.now < length c.args.text.now). absurd (omega arith)))
