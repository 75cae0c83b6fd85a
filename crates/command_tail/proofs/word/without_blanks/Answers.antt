use Rattle.std.proofs.Common.{◌<◌, ◌-◌, ◌==◌, not, length, drop, sym, ap, ◌∙◌, arith, rules}
use Rattle.std.proofs.lemmas.List.{take_all, drop_all, length-drop}
use Rattle.std.proofs.lemmas.List.Sums.{position_or_len_is}
use Rattle.command_tail.proofs.word.without_blanks.Goals as goal

pub returns-then-text-start-ne32 : goal.returns-then-text-start-ne32
returns-then-text-start-ne32 c =
    take_all (length c.args.text.now - c.loop-start.start) (drop c.loop-start.start c.args.text.now) (omega (arith, length-drop c.loop-start.start c.args.text.now))
    ∙ ap (λ n. drop n c.args.text.now) (sym (position_or_len_is (λ b. not (b == 32)) c.args.text.now c.loop-start.start 0 (omega arith) c.loop-start.invariant (λ _. search rules)))

pub returns : goal.returns
returns c =
    sym (drop_all _ c.args.text.now (let end = position_or_len_is (λ b. not (b == 32)) c.args.text.now (length c.args.text.now) 0 (omega arith)
    (λ k h. let below : k < c.loop-start.start = omega arith in c.loop-start.invariant k below) (λ (h : length c.args.text.now < length c.args.text.now). absurd (omega arith)) in omega arith))
