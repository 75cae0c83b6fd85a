-- The names at which files are first written are the names that ended runs leave.
use Rattle.std.proofs.Common.{◌≡◌, ◌≢◌, ◌<◌, ◌+◌, ◌-◌, ◌*◌, ◌^◌, ◌++◌, ◌∷◌, ℕ, Bool, true, false, cond, List, [], length, get_or, nat_lt, Some, append_assoc, codes, refl, sym, ap, ◌∙◌, is_some, inl, inr, zero, suc, arith, rules}
use Rattle.std.specs.Char.{is_ascii_digit}
use Rattle.std.specs.Fmt.{decimal}
use Rattle.std.specs.List.{list_all}
use Rattle.std.specs.Path.{rsplit_once}
use Rattle.std.proofs.lemmas.Bool.{ne_eqb}
use Rattle.std.proofs.lemmas.Bool.Decides.{eqb_tells}
use Rattle.std.proofs.lemmas.Fmt.{decimal_nonempty, digits_decimal}
use Rattle.std.proofs.lemmas.Str.Parse.{IsNumeralModel, not_in_digits, numerals_by_fold}
use Rattle.filenames.specs.Names.{key_or_refusal}
use Rattle.folders.specs.FileSystem.{Path}
use Rattle.folders.specs.FolderNames.{key_in}
use Rattle.folders.specs.LeftNames.{before_number, is_left, is_new_of_file, is_number}
use Rattle.folders.specs.Temporaries.{short_name, temporary_name}
use Rattle.folders.proofs.SplitLemmas.{split_at}

abbrev read_on : ℕ → List ℕ → ℕ
read_on n [] = n
read_on n (c ∷ cs) = read_on (10 * n + (c - 48)) cs

own : IsNumeralModel (λ ds. list_all is_ascii_digit ds ≡ true) (read_on 0)
own = numerals_by_fold _ (search rules) read_on (search rules)

numbered : (n : ℕ) → n < 2 ^ 64 → is_number (decimal n) ≡ true
numbered n small =
    rw (ne_eqb (length (decimal n)) 0 (λ e. let some = decimal_nonempty n small in absurd (omega arith)), digits_decimal own n small)

new_plain : (i : ℕ) → i < length (codes "new") → get_or (codes "new") i 0 ≢ 46
new_plain zero less e = absurd (omega (arith, e))
new_plain (suc zero) less e = absurd (omega (arith, e))
new_plain (suc (suc zero)) less e = absurd (omega (arith, e))
new_plain (suc (suc (suc i))) less e = absurd (omega (arith, less))

new_parts : (name : Path) → rsplit_once 46 (name ++ codes ".new") ≡ Some (name, codes "new")
new_parts name = split_at name (codes "new") new_plain

short_valid : (name : Path) → is_some (key_in 0 name) ≡ true → is_some (key_in 0 (short_name name)) ≡ true
unfolding key_or_refusal
short_valid name valid = by (nat_lt 200 (length name)) where
  by : (long : Bool) → is_some (key_in 0 (cond long (codes "cpmrun") name)) ≡ true
  by true = refl
  by false = valid

-- The name `.NAME.new`, and the same with a number.
plain : (name : Path) → is_some (key_in 0 name) ≡ true → is_left (46 ∷ name ++ codes ".new") ≡ true
plain name valid =
    ap (λ parts. is_new_of_file (rsplit_once 46 (before_number (name ++ codes ".new") parts))) (new_parts name) ∙ ap is_new_of_file (new_parts name) ∙ valid

counted : (name : Path) (number : ℕ) → number < 2 ^ 64 → is_some (key_in 0 name) ≡ true → is_left (46 ∷ name ++ (codes ".new." ++ decimal number)) ≡ true
counted name number small valid =
    let rest = name ++ (codes ".new." ++ decimal number) in
    let parts : rsplit_once 46 rest ≡ Some (name ++ codes ".new", decimal number) = ap (rsplit_once 46) (sym (append_assoc name (codes ".new") (46 ∷ decimal number)))
    ∙ split_at (name ++ codes ".new") (decimal number) (not_in_digits own (decimal number) 46 (digits_decimal own number small) (λ h. absurd (omega (arith, h)))) in
    ap (λ found. is_new_of_file (rsplit_once 46 (before_number rest found))) parts
    ∙ ap (λ is. is_new_of_file (rsplit_once 46 (cond is (name ++ codes ".new") rest))) (numbered number small) ∙ ap is_new_of_file (new_parts name) ∙ valid

pub left : (name : Path) (number : ℕ) → number < 2 ^ 64 → is_some (key_in 0 name) ≡ true → is_left (temporary_name name number) ≡ true
left name number small valid = elim (eqb_tells number 0) [
  | inl e ↦ rw e.0 (plain (short_name name) (short_valid name valid))
  | inr e ↦ rw e.0 (counted (short_name name) number small (short_valid name valid))
]
