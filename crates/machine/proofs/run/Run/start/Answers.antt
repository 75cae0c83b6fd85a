use Rattle.std.proofs.Common.{arith}
use Rattle.machine.specs.Machine.{session_answers, outcome, start}
use Rattle.machine.proofs.RunLemmas.{after_zero}
use Rattle.machine.proofs.FirstLemmas.{nothing_noted}
use Rattle.machine.proofs.NoteLemmas.{none_looked}
use Rattle.machine.proofs.run.Run.start.Goals as goal

pub invariant_of-result : goal.invariant_of-result
invariant_of-result c =
    let e = c.new.ensures in
    let f = session_answers c.args.session.now in
    let first = nothing_noted f c.new.result (record { cells = e.cells; offsets = e.offsets; files = e.files; seen = e.seen }) in
    record {
      session = c.in_ok-state.ensures.session;
      within = omega arith;
      run = record {
        at = after_zero (outcome f) start c.in_ok-state.state.state c.in_ok-state.ensures.state;
        bound = c.in_ok-state.ensures.bound;
        first = first;
        seen_in = let seen = e.seen in omega (arith, seen);
        noted = λ _. (omega arith, none_looked c.new.result c.in_ok-state.state.looked c.in_ok-state.ensures.looked);
      };
    }
