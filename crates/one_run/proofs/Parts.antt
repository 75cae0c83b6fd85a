-- A text that is pushed in three or four parts.
use Rattle.std.proofs.Common.{◌≡◌, ◌++◌, List, ℕ, ap, refl, ◌∙◌}
use Rattle.streams.specs.Pushing.{Pushed, more}
use Rattle.streams.proofs.Pushes.{four_pushed, next_pushed}

pub three_parts : (p q r s : Pushed) (a b c z : List ℕ) → q ≡ more p a → r ≡ more q b → s ≡ more r c → a ++ b ++ c ≡ z → s ≡ more p z
three_parts p q r s a b c z e f g split = next_pushed p r s (a ++ b) c z (next_pushed p q r a b (a ++ b) e f refl) g split

pub four_parts : (p q r s t : Pushed) (a b c d z : List ℕ) → q ≡ more p a → r ≡ more q b → s ≡ more r c → t ≡ more s d → a ++ b ++ c ++ d ≡ z → t ≡ more p z
four_parts p q r s t a b c d z e f g h split = four_pushed p q r s t a b c d e f g h ∙ ap (more p) split
