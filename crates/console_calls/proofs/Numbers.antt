-- The path of each call number.
use Rattle.std.proofs.Common.{◌≡◌, ◌≢◌, ℕ, [], refl, sym, ap}
use Rattle.std.proofs.lemmas.Bool.{ne_eqb}
use Rattle.i8080.specs.declared.registers.Regs.{Regs}
use Rattle.console_calls.specs.declared.desk.Spot.{Spot}
use Rattle.console_calls.specs.declared.cause.Cause.TheVariants.{Unsupported}
use Rattle.console_calls.specs.StateQuestions.{StateAnswers}
use Rattle.console_calls.specs.ConsoleCalls.{Stopped, console_call, call_of_number, direct_console, direct_output}
use Rattle.console_calls.specs.PerformsCall.{path_by}

pub numbered : (f : StateAnswers) (n : ℕ) (r : Regs) (spot : Spot) (number : ℕ) → r.c ≡ number → path_by f (call_of_number n number r spot) ≡ path_by f (console_call n r spot)
unfolding console_call
numbered f n r spot number is = ap (λ (x : ℕ). path_by f (call_of_number n x r spot)) (sym is)

pub unsupported : (f : StateAnswers) (n : ℕ) (r : Regs) (spot : Spot) → r.c ≢ 0 → r.c ≢ 1 → r.c ≢ 2 → r.c ≢ 6 → r.c ≢ 7 → r.c ≢ 8 → r.c ≢ 9 → r.c ≢ 10 → r.c ≢ 11 → r.c ≢ 12 → r.c ≢ 13 → r.c ≢ 14 → r.c ≢ 24 → r.c ≢ 25 → r.c ≢ 26
    → record { end = Stopped (Unsupported r.c); cells = []; offsets = [] } ≡ path_by f (console_call n r spot)
unfolding console_call
unsupported f n r spot h0 h1 h2 h6 h7 h8 h9 h10 h11 h12 h13 h14 h24 h25 h26 =
    rw (ne_eqb r.c 0 h0, ne_eqb r.c 1 h1, ne_eqb r.c 2 h2, ne_eqb r.c 6 h6, ne_eqb r.c 7 h7, ne_eqb r.c 8 h8, ne_eqb r.c 9 h9, ne_eqb r.c 10 h10, ne_eqb r.c 11 h11, ne_eqb r.c 12 h12, ne_eqb r.c 13 h13, ne_eqb r.c 14 h14, ne_eqb r.c 24 h24, ne_eqb r.c 25 h25, ne_eqb r.c 26 h26) refl

pub sends : (f : StateAnswers) (r : Regs) (spot : Spot) → r.e ≢ 0xff → path_by f (direct_output r spot) ≡ path_by f (direct_console r spot)
sends f r spot other = rw (ne_eqb r.e 0xff other) refl
