-- Printing a string byte by byte, one cell after another.
use Rattle.std.proofs.Common.{◌≡◌, ◌≢◌, ℕ, suc, ◌+◌, ◌-◌, ◌<◌, ◌≤◌, true, false, List, [], ◌∷◌, ◌++◌, Option, Some, None, is_some, length, take, refl, ap, sym, subst, ◌∙◌, arith, cond, ◌==◌}
use Rattle.std.proofs.lemmas.Bool.{eq-eqb, ne_eqb}
use Rattle.std.proofs.lemmas.List.{take-append-le, length-append, append_assoc, append-nil}
use Rattle.std.specs.Option.{option_map}
use Rattle.i8080.specs.Memory.{Memory, Own, Looks, Extends, bytes, look, look_all}
use Rattle.i8080.specs.Reading.{Reading, Done, Cell, end_of, asked}
use Rattle.i8080.specs.Registers.{onward}
use Rattle.i8080.specs.Performs.{Reads}
use Rattle.i8080.proofs.LookLemmas.{extends_twice}
use Rattle.i8080.proofs.BoundLemmas.{bound_here, bound_all}
use Rattle.console_calls.proofs.Looking.{one_more}
use Rattle.console_calls.specs.Desk.{Desk, ConsoleText, printed_byte, printed_bytes}
use Rattle.console_calls.specs.DeskAfter.{desk_showing, desk_printing}
use Rattle.console_calls.specs.Strings.{ending, string_at}
use Rattle.console_calls.specs.Printing.{GrowsText, desk_after_string}

pub end_of-ending : {E F : Type 0} (h : E → F) (t : Reading E) (byte : ℕ → ℕ) → end_of (ending h t) byte ≡ h (end_of t byte)
end_of-ending h (Done e) byte = refl
end_of-ending h (Cell a k) byte = end_of-ending h (k (byte a)) byte

pub asked-ending : {E F : Type 0} (h : E → F) (t : Reading E) (byte : ℕ → ℕ) → asked (ending h t) byte ≡ asked t byte
asked-ending h (Done e) byte = refl
asked-ending h (Cell a k) byte = ap (λ (at : List ℕ). a ∷ at) (asked-ending h (k (byte a)) byte)

pub one_less : (n i : ℕ) → i < n → n - i ≡ suc (n - (i + 1))
one_less n i h = omega arith

pub none_left : (n i : ℕ) → n ≤ i → n - i ≡ 0
none_left n i h = omega arith

-- The string from a cell on: the cell ends it, or the string continues at the next cell.
ends_here : (byte : ℕ → ℕ) (n a : ℕ) → byte a ≡ 0x24 → end_of (string_at (suc n) a) byte ≡ Some []
unfolding string_at
ends_here byte n a h = rw (eq-eqb (byte a) 0x24 h, end_of) refl

asked_here : (byte : ℕ → ℕ) (n a : ℕ) → byte a ≡ 0x24 → asked (string_at (suc n) a) byte ≡ a ∷ []
unfolding string_at
asked_here byte n a h = rw (eq-eqb (byte a) 0x24 h, asked) refl

goes_on : (byte : ℕ → ℕ) (n a : ℕ) → byte a ≢ 0x24
    → end_of (string_at (suc n) a) byte ≡ option_map (λ rest. byte a ∷ rest) (end_of (string_at n (onward a 1)) byte)
unfolding string_at
goes_on byte n a h = rw (ne_eqb (byte a) 0x24 h, end_of) (end_of-ending (option_map (λ rest. byte a ∷ rest)) (string_at n (onward a 1)) byte)

asked_on : (byte : ℕ → ℕ) (n a : ℕ) → byte a ≢ 0x24 → asked (string_at (suc n) a) byte ≡ a ∷ asked (string_at n (onward a 1)) byte
unfolding string_at
asked_on byte n a h = rw (ne_eqb (byte a) 0x24 h, asked) (ap (λ (at : List ℕ). a ∷ at) (asked-ending (option_map (λ rest. byte a ∷ rest)) (string_at n (onward a 1)) byte))

nothing_left : (byte : ℕ → ℕ) (a : ℕ) → end_of (string_at 0 a) byte ≡ None
unfolding string_at
nothing_left byte a = refl

nothing_asked : (byte : ℕ → ℕ) (a : ℕ) → asked (string_at 0 a) byte ≡ []
unfolding string_at
nothing_asked byte a = refl

print_first : (d : Desk) (v : ℕ) (rest : Option (List ℕ)) → option_map (desk_printing d) (option_map (λ r. v ∷ r) rest) ≡ option_map (desk_printing (desk_showing d (printed_byte d.spot.column v))) rest
print_first d v None = refl
print_first d v (Some rest) = ap (λ text. Some (record { spot = record d.spot { column = (printed_bytes d.spot.column (v ∷ rest)).column }; text = text })) (sym (append_assoc d.text (printed_byte d.spot.column v).bytes (printed_bytes (printed_byte d.spot.column v).column rest).bytes))

-- One pass of the loop: a byte other than `$` was read and printed.
pub desk_on : (byte : ℕ → ℕ) (n i a v : ℕ) (d d' : Desk) → i < n → v ≡ byte a → v ≢ 0x24 → d' ≡ desk_showing d (printed_byte d.spot.column v)
    → option_map (desk_printing d') (end_of (string_at (n - (i + 1)) (onward a 1)) byte) ≡ option_map (desk_printing d) (end_of (string_at (n - i) a) byte)
desk_on byte n i a v d d' h e other p =
    rw (p, one_less n i h, goes_on byte (n - (i + 1)) a (rw (← e) other), e) (sym (print_first d (byte a) _))

pub looks_on : (byte : ℕ → ℕ) (own : Own) (looks looks' : Looks) (n i a v : ℕ) → i < n → v ≡ byte a → v ≢ 0x24 → looks' ≡ look own looks a
    → look_all own (asked (string_at (n - (i + 1)) (onward a 1)) byte) looks' ≡ look_all own (asked (string_at (n - i) a) byte) looks
looks_on byte own looks looks' n i a v h e other l =
    rw (l, one_less n i h, asked_on byte (n - (i + 1)) a (rw (← e) other)) refl

-- At the `$`.
pub desk_here : (byte : ℕ → ℕ) (n i a v : ℕ) (d : Desk) → i < n → v ≡ byte a → v ≡ 0x24
    → option_map (desk_printing d) (end_of (string_at (n - i) a) byte) ≡ Some d
desk_here byte n i a v d h e dollar = rw (one_less n i h, ends_here byte (n - (i + 1)) a (sym e ∙ dollar)) (ap (λ text. Some (record { spot = d.spot; text = text })) (append-nil d.text))

pub looks_here : (byte : ℕ → ℕ) (own : Own) (looks : Looks) (n i a v : ℕ) → i < n → v ≡ byte a → v ≡ 0x24
    → look_all own (asked (string_at (n - i) a) byte) looks ≡ look own looks a
looks_here byte own looks n i a v h e dollar = rw (one_less n i h, asked_here byte (n - (i + 1)) a (sym e ∙ dollar)) refl

-- After the last cell.
pub desk_end : (byte : ℕ → ℕ) (n i a : ℕ) (d : Desk) → n ≤ i → option_map (desk_printing d) (end_of (string_at (n - i) a) byte) ≡ None
desk_end byte n i a d h = rw (none_left n i h, nothing_left byte a) refl

pub looks_end : (byte : ℕ → ℕ) (own : Own) (looks : Looks) (n i a : ℕ) → n ≤ i → look_all own (asked (string_at (n - i) a) byte) looks ≡ looks
looks_end byte own looks n i a h = rw (none_left n i h, nothing_asked byte a) refl

pub same_bytes : (m n : Memory) → n.own ≡ m.own → n.beneath ≡ m.beneath → bytes n ≡ bytes m
same_bytes m n o b = rw (o, b) refl

-- A byte read from a memory with the same bytes as the first memory.
module _ (first now next : Memory) (a v : ℕ) (h : Reads (Cell a Done) now v next) (own : now.own ≡ first.own) (beneath : now.beneath ≡ first.beneath) where
  pub byte_read : v ≡ bytes first a
  byte_read = h.value ∙ ap (λ (f : ℕ → ℕ). f a) (same_bytes first now own beneath)

  pub looked_at : next.looks ≡ look first.own now.looks a
  looked_at = h.looks ∙ ap (λ (o : Own). look o now.looks a) own

-- There is a string if the desk printed one.
pub found_some : (d d' : Desk) (string : Option (List ℕ)) → Some d' ≡ option_map (desk_printing d) string → true ≡ is_some string
found_some d d' None h = cc
found_some d d' (Some s) h = refl

pub found_none : (d : Desk) (string : Option (List ℕ)) → None ≡ option_map (desk_printing d) string → false ≡ is_some string
found_none d None h = refl
found_none d (Some s) h = cc

pub desk_is : (d d' : Desk) (string : Option (List ℕ)) → Some d' ≡ option_map (desk_printing d) string → d' ≡ desk_after_string d string
desk_is d d' None h = cc
desk_is d d' (Some s) h = cc

-- Printing only adds to the text.
grown_by : (d : Desk) (text more : List ℕ) → length d.text ≤ length text → take (length d.text) text ≡ d.text
    → (length d.text ≤ length (text ++ more)) × (take (length d.text) (text ++ more) ≡ d.text)
grown_by d text more h e = (omega (arith, length-append text more), take-append-le (length d.text) text more h ∙ e)

pub grown_on : (d d1 : Desk) (s : ConsoleText) → GrowsText d d1 → GrowsText d (desk_showing d1 s)
grown_on d d1 s h = let both = grown_by d d1.text s.bytes h.longer h.since in record { longer = both.0; since = both.1; cursor = h.cursor }

-- The next cell is looked at, whatever it holds.
first_asked : (byte : ℕ → ℕ) (n a : ℕ) → (rest : List ℕ) × (asked (string_at (suc n) a) byte ≡ a ∷ rest)
unfolding string_at
first_asked byte n a = (asked (cond (byte a == 0x24) (Done (Some [])) (ending (option_map (λ rest. byte a ∷ rest)) (string_at n (onward a 1)))) byte, refl)

-- An error at a cell, or after it.
pub bound_at : (byte : ℕ → ℕ) (own : Own) (looks new whole : Looks) (n i a : ℕ) → i < n → look_all own (asked (string_at (n - i) a) byte) looks ≡ whole → Extends new (look own looks a) → Extends new whole
bound_at byte own looks new whole n i a h e bound =
    let first = first_asked byte (n - (i + 1)) a in
    subst (λ (l : Looks). Extends new l) (sym (rw (one_less n i h) (ap (λ (at : List ℕ). look_all own at looks) first.1)) ∙ e) (bound_all own first.0 new (look own looks a) bound)

-- The rules for a string that is read cell by cell.
pub ruleset byte_by_byte = (one_more, extends_twice, bound_here, bound_at)
