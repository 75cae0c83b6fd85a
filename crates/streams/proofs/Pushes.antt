-- A text that is pushed in parts.
use Rattle.std.proofs.Common.{◌≡◌, ℕ, Bool, List, [], ◌++◌, ap, sym, ◌∙◌, append_assoc, append-nil, Result, Ok, Err, IsErr, subst}
use Rattle.streams.specs.Pushing.{Pushed, PushesPart, PushesText, PushesUnless, more}

-- Nothing is pushed.
pub none_pushed : (p : Pushed) (z : List ℕ) → z ≡ [] → p ≡ more p z
none_pushed p z none = ap (λ t. record p { text = t }) (sym (append-nil p.text)) ∙ ap (more p) (sym none)

-- Two parts are pushed.
pub more_more : (p : Pushed) (x y : List ℕ) → more (more p x) y ≡ more p (x ++ y)
more_more p x y = ap (λ t. record p { text = t }) (append_assoc p.text x y)

-- A part is pushed after others.
pub next_pushed : (p q r : Pushed) (x y z : List ℕ) → q ≡ more p x → r ≡ more q y → x ++ y ≡ z → r ≡ more p z
next_pushed p q r x y z e f split = f ∙ ap (λ q. more q y) e ∙ more_more p x y ∙ ap (more p) split

-- Four texts are pushed, one after the other.
pub four_pushed : (p q r s t : Pushed) (a b c d : List ℕ) → q ≡ more p a → r ≡ more q b → s ≡ more r c → t ≡ more s d → t ≡ more p (a ++ b ++ c ++ d)
four_pushed p q r s t a b c d e f g h = rw (h, g, f, e) (simp append_assoc)

-- A part is pushed, and the rest is left.
pub part_pushed : (p q w : Pushed) (x y z : List ℕ) → q ≡ more p x → x ++ y ≡ z → more p z ≡ w → more q y ≡ w
part_pushed p q w x y z e split left = ap (λ q. more q y) e ∙ more_more p x y ∙ ap (more p) split ∙ left

-- Nothing is left.
pub all_pushed : (p w : Pushed) (z : List ℕ) → z ≡ [] → more p z ≡ w → p ≡ w
all_pushed p w z none left = none_pushed p z none ∙ left

-- ---- a prefix of a text

-- All of it.
pub whole_part : {p q : Pushed} {text : List ℕ} → q ≡ more p text → PushesPart p q text
whole_part {q = q} e = record { rest = []; split = sym (none_pushed q [] (λ _. [])) ∙ e }

-- A prefix of the rest.
pub part_then : {p q r : Pushed} {text rest : List ℕ} → more q rest ≡ more p text → PushesPart q r rest → PushesPart p r text
part_then left w = record { rest = w.rest; split = w.split ∙ left }

-- Nothing of it.
pub no_part : (p : Pushed) (text : List ℕ) → PushesPart p p text
no_part p text = record { rest = text; split = λ _. more p text }

-- A prefix of a longer text.
pub part_longer : {p q : Pushed} {x text : List ℕ} (z : List ℕ) → PushesPart p q x → x ++ z ≡ text → PushesPart p q text
part_longer {p = p} {q = q} {x = x} z w e =
    record { rest = w.rest ++ z; split = sym (more_more q w.rest z) ∙ ap (λ (r : Pushed). more r z) w.split ∙ more_more p x z ∙ ap (more p) e }

-- ---- by a result

pub pushes_part : {T E : Type 0} {p q : Pushed} {text : List ℕ} (r : Result T E) → IsErr r → PushesPart p q text → PushesText p q text r
pushes_part (Ok u) h part = absurd (cc)
pushes_part (Err e) h part = part

-- An error, whether sending failed or not.
pub unless_failed : {T E : Type 0} {failed : Bool} {p q : Pushed} {text : List ℕ} (r : Result T E) → IsErr r → PushesPart p q text → PushesUnless failed p q text r
unless_failed (Ok u) h part = absurd (cc)
unless_failed (Err e) h part = record { part = part; whole = λ sound. tt }

-- The same for an equal text.
pub pushes_same : {T E : Type 0} (p q : Pushed) (x y : List ℕ) (r : Result T E) → x ≡ y → PushesText p q x r → PushesText p q y r
pushes_same p q x y r e w = subst (λ t. PushesText p q t r) e w
