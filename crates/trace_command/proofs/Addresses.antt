-- The address of hexadecimal digits.
use Rattle.std.proofs.Common.{◌≡◌, ◌∙◌, ◌<◌, ◌≤◌, ◌^◌, ℕ, Bool, true, false, List, [], ◌∷◌, Some, Ok, Err, Result, ap, arith, cond, drop, length, refl}
use Rattle.std.specs.Prelude.{◌==◌, ◌&&◌}
use Rattle.std.specs.Char.{digit_value, is_ascii_hexdigit}
use Rattle.std.specs.List.{list_all}
use Rattle.std.specs.Result.{result_ok}
use Rattle.std.specs.Str.Parse.{AllDigits, ParsesUnsigned, digits_value, without_leading_plus}
use Rattle.std.proofs.lemmas.Bool.Decides.{nat_tests}
use Rattle.std.proofs.lemmas.Int.Digits.{digits_value-lt}
use Rattle.trace_command.specs.Choices.{address_of, is_address}

digit_below : (c : ℕ) → is_ascii_hexdigit c ≡ true → digit_value c < 16
digit_below c h = grind (arith, nat_tests)

no_plus : (c : ℕ) → is_ascii_hexdigit c ≡ true → (c == 43) ≡ false
no_plus c h = grind (arith, nat_tests)

both : (a b : Bool) → (a && b) ≡ true → (a ≡ true) × (b ≡ true)
both true true h = (refl, refl)
both true false h = cc
both false b h = cc

all_digits : (text : List ℕ) → list_all is_ascii_hexdigit text ≡ true → AllDigits 16 text
all_digits [] h = tt
all_digits (c ∷ cs) h = let parts = both (is_ascii_hexdigit c) (list_all is_ascii_hexdigit cs) h in (digit_below c parts.0, all_digits cs parts.1)

unsigned : (text : List ℕ) → list_all is_ascii_hexdigit text ≡ true → without_leading_plus text ≡ text
unsigned [] h = refl
unsigned (c ∷ cs) h = let parts = both (is_ascii_hexdigit c) (list_all is_ascii_hexdigit cs) h in ap (λ b. drop (cond b 1 0) (c ∷ cs)) (no_plus c parts.0)

fits : (text : List ℕ) → AllDigits 16 text → length text ≤ 4 → digits_value 16 text < 2 ^ 16
fits [] all short = omega arith
fits (a ∷ []) all short = let low = digits_value-lt 16 (a ∷ []) all in omega (arith, low)
fits (a ∷ b ∷ []) all short = let low = digits_value-lt 16 (a ∷ b ∷ []) all in omega (arith, low)
fits (a ∷ b ∷ c ∷ []) all short = let low = digits_value-lt 16 (a ∷ b ∷ c ∷ []) all in omega (arith, low)
fits (a ∷ b ∷ c ∷ d ∷ []) all short = let low = digits_value-lt 16 (a ∷ b ∷ c ∷ d ∷ []) all in omega (arith, low)
fits (a ∷ b ∷ c ∷ d ∷ e ∷ text) all short = absurd (omega (arith, short))

some : {E : Type 0} (text : List ℕ) (r : Result ℕ E) → ParsesUnsigned 16 16 text r → list_all is_ascii_hexdigit text ≡ true → 0 < length text → length text ≤ 4
    → result_ok r ≡ Some (digits_value 16 text)
some text (Ok n) parses all any short = ap Some (parses.1 ∙ ap (digits_value 16) (unsigned text all))
some text (Err e) parses all any short =
    absurd (parses (rw (unsigned text all) ((any, all_digits text all), fits text (all_digits text all) short)))

-- What is parsed of a text that is an address.
pub address_parsed : {E : Type 0} (text : List ℕ) (r : Result ℕ E) → is_address text ≡ true → ParsesUnsigned 16 16 text r → result_ok r ≡ address_of text
address_parsed text r is parses = rw is (some text r parses (grind (arith, nat_tests)) (grind (arith, nat_tests)) (grind (arith, nat_tests)))
