use Rattle.std.proofs.Common.{◌≡◌, ◌∙◌, Some, None, arith, sym}
use Rattle.std.specs.Str.Parse.{ParsesUnsigned, ExplainsUnsignedError, HasUnsignedDigitsIfOk}
use Rattle.clap.specs.Words.{found_of}
use Rattle.command_words.proofs.Matching.{number_read, number_said, out_of_range}
use Rattle.command_words.proofs.words.number.Goals as goal

pub returns-in-Some-clause-said : goal.returns-in-Some-clause-said
returns-in-Some-clause-said c =
    number_said (found_of c.args.matches.now) c.args.id.now (λ bs r. ParsesUnsigned 64 10 bs r × ExplainsUnsignedError 10 bs r × HasUnsignedDigitsIfOk bs r) c.in-Some.n
    c.in-Some.ensures.none c.in-Some.ensures.value (λ t x h. h.0)

pub returns-in_default-clause-none : goal.returns-in_default-clause-none
returns-in_default-clause-none c n says low high =
    let fits = c.ranges.most.fits in
    let high' = c.if-n-most.false in
    out_of_range n c.in-Some.n c.args.least c.args.most
    (number_read (found_of c.args.matches.now) c.args.id.now (λ bs r. ParsesUnsigned 64 10 bs r × ExplainsUnsignedError 10 bs r × HasUnsignedDigitsIfOk bs r) (Some c.in-Some.n)
    c.in-Some.ensures.value (λ t x h. h.0) n says (omega (arith, high, fits)))
    low high (λ a b. absurd (omega (arith, b, high')))

pub returns-in_default-2-clause-none : goal.returns-in_default-2-clause-none
returns-in_default-2-clause-none c n says low high =
    let fits = c.ranges.most.fits in
    let low' = c.if-least-n.false in
    out_of_range n c.in-Some.n c.args.least c.args.most
    (number_read (found_of c.args.matches.now) c.args.id.now (λ bs r. ParsesUnsigned 64 10 bs r × ExplainsUnsignedError 10 bs r × HasUnsignedDigitsIfOk bs r) (Some c.in-Some.n)
    c.in-Some.ensures.value (λ t x h. h.0) n says (omega (arith, high, fits)))
    low high (λ a b. absurd (omega (arith, a, low')))

pub returns-in_default-3-clause-none : goal.returns-in_default-3-clause-none
returns-in_default-3-clause-none c n says low high =
    let fits = c.ranges.most.fits in
    let read : c.get_one.result ≡ Some n = number_read (found_of c.args.matches.now) c.args.id.now (λ bs r. ParsesUnsigned 64 10 bs r × ExplainsUnsignedError 10 bs r × HasUnsignedDigitsIfOk bs r)
    c.get_one.result c.get_one.ensures.value (λ t x h. h.0) n says (omega (arith, high, fits)) in
    let bad : Some n ≡ None = sym read ∙ c.in_default.is in
    cc
