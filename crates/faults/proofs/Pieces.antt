-- Texts and their pieces, with escapes.
use Rattle.std.proofs.Common.{◌≡◌, ◌∙◌, ◌++◌, ℕ, List, [], ap, append-nil, append_assoc, refl, sym}
use Rattle.std.proofs.lemmas.Grind.{flat_map-append}
use Rattle.streams.specs.Pushing.{Pushed, more}
use Rattle.streams.proofs.Pushes.{next_pushed}
use Rattle.faults.specs.Faults.{message_line, shown, shown_byte}
use Rattle.faults.specs.declared.tool.Tool.{Tool}

-- A text was pushed, which is another one in other words.
pub is_text : (p q : Pushed) (t u : List ℕ) → q ≡ more p (shown t) → t ≡ u → q ≡ more p (shown u)
is_text p q t u e same = e ∙ ap (λ t. more p (shown t)) same

pub is_line : (tool : Tool) (p q : Pushed) (t u : List ℕ) → q ≡ more p (message_line tool t) → t ≡ u → q ≡ more p (message_line tool u)
is_line tool p q t u e same = e ∙ ap (λ t. more p (message_line tool t)) same

-- Five texts that were pushed as pieces, and others.
pub five_joined : (a b c d e : List ℕ) → (a ++ (b ++ (c ++ (d ++ [])))) ++ e ≡ a ++ b ++ c ++ d ++ e
five_joined a b c d e = simp (append_assoc, append-nil) refl

pub name_joined : (a b c d e : List ℕ) → (a ++ b) ++ (c ++ (d ++ (e ++ []))) ≡ a ++ b ++ c ++ d ++ e
name_joined a b c d e = simp (append_assoc, append-nil) refl

-- Two texts were pushed, one after the other.
pub two_texts : (p q r : Pushed) (t u all : List ℕ) → q ≡ more p (shown t) → r ≡ more q (shown u) → t ++ u ≡ all → r ≡ more p (shown all)
two_texts p q r t u all e f same = next_pushed p q r (shown t) (shown u) (shown all) e f (sym (flat_map-append shown_byte t u) ∙ ap shown same)
