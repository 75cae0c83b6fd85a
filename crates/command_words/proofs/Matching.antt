-- What is read of the matches of a parse.
use Rattle.std.proofs.Common.{◌≡◌, ◌∙◌, ◌≤◌, ◌<◌, ◌^◌, ℕ, List, [], ◌∷◌, Bool, map, unwrap_or, Option, Some, None, sym, ap, subst, refl, true, false, codes}
use Rattle.std.specs.Prelude.{IfNone, IfSome, Result, Ok, Err, is_some, option_map}
use Rattle.std.specs.Borrow.{Bor}
use Rattle.std.specs.Str.Parse.{ParsesBool, ParsesUnsigned}
use Rattle.clap.specs.Words.{App, FailsBy, HasKind, Kinds, ReadsOne, Row, Text, fault_of, first_of, first_value, is_simple, matches_of, one_of, one_text, rows_of}
use Rattle.clap.specs.Faults.{is_simple_and_free}
use Rattle.clap.specs.declared.error.Error.{Error}
use Rattle.clap.specs.declared.parser.matches.Found.{Found}
use Rattle.clap.proofs.OnLiterals.{clap_on_literals}
use Rattle.clap.proofs.WalkLemmas.{first_value-rows, one_text-rows}
use Rattle.command_words.specs.CommandLine.{HasNoNumberWithin, IsFlagOf, IsNumberIfAny, IsNumberOf, text_of}
use Rattle.command_words.specs.RunLine.{run_line}
use Rattle.command_words.specs.DependencyLine.{dependency_line}
use Rattle.command_words.specs.TraceLine.{trace_line}

pub is_simple_run : is_simple run_line ≡ true
unfolding clap_on_literals
is_simple_run = refl

pub is_free_run : is_simple_and_free run_line ≡ true
unfolding clap_on_literals
is_free_run = refl

pub is_simple_dependency : is_simple dependency_line ≡ true
unfolding clap_on_literals
is_simple_dependency = refl

pub is_free_dependency : is_simple_and_free dependency_line ≡ true
unfolding clap_on_literals
is_free_dependency = refl

pub is_simple_trace : is_simple trace_line ≡ true
unfolding clap_on_literals
is_simple_trace = refl

pub is_free_trace : is_simple_and_free trace_line ≡ true
unfolding clap_on_literals
is_free_trace = refl

-- The matches of a command equal to a command line are the matches of that command line, and so are the kinds of its errors.
pub says_at : {W : Type 0} (Are : List Row → W → Type 0) (line a : App) (words : List Text) (rows : List Row) (w : W) → is_simple line ≡ true → a ≡ line
    → (is_simple a ≡ true → rows ≡ matches_of a words) → Are rows w → Are (matches_of line words) w
says_at Are line a words rows w simple same read = subst (λ r. Are r w) (read (ap is_simple same ∙ simple) ∙ ap (λ x. matches_of x words) same)

pub faults_at : {T : Type 0} (line a : App) (words : List Text) (r : Result T Error) → is_simple_and_free line ≡ true → a ≡ line
    → (is_simple_and_free a ≡ true → FailsBy (fault_of a words) r) → FailsBy (fault_of line words) r
faults_at line a words r free same h = subst (λ x. FailsBy (fault_of x words) r) same (h (ap is_simple_and_free same ∙ free))

-- A text that was read is the text of the row.
pub text_said : (f : Found) (id : Text) (rows : List Row) (r : Option (Bor Text)) → rows_of f ≡ rows → option_map (λ s. s.now) r ≡ first_value f id
    → option_map (λ s. s.now) r ≡ first_of id rows
text_said f id rows r same e = e ∙ first_value-rows f id ∙ ap (first_of id) same

-- A text is in the row exactly if one was read.
pub is_given : (f : Found) (id : Text) (r : Option (Bor Text)) → option_map (λ s. s.now) r ≡ first_value f id → is_some (first_of id (rows_of f)) ≡ is_some r
is_given f id r e = ap is_some (sym (first_value-rows f id) ∙ sym e) ∙ mapped r where
  mapped : (r : Option (Bor Text)) → is_some (option_map (λ s. s.now) r) ≡ is_some r
  mapped None = refl
  mapped (Some s) = refl

-- A number that was read is the number in the row.
pub number_said : {E : Type 0} (f : Found) (id : Text) (G : List ℕ → Result ℕ E → Type 0) (n : ℕ) → (one_text f id ≡ None → Some n ≡ None)
    → ((t : List ℕ) → one_text f id ≡ Some t → ReadsOne G t (Some n)) → ((t : List ℕ) (x : Result ℕ E) → G t x → ParsesUnsigned 64 10 t x)
    → IsNumberOf (rows_of f) id n
number_said f id G n none value parses = elim (one_text f id) as (λ o. one_text f id ≡ o → IsNumberOf (rows_of f) id n) [
  | None ↦ λ e. let bad : Some n ≡ None = none e in cc
  | Some t ↦ λ e. let read = parses t (Ok n) (value t e) in (t, sym (one_text-rows f id) ∙ e, (read.0.0, read.1))
] refl

-- If the row has a number of 64 bits, that number was read.
pub number_read : {E : Type 0} (f : Found) (id : Text) (G : List ℕ → Result ℕ E → Type 0) (r : Option ℕ) → ((t : List ℕ) → one_text f id ≡ Some t → ReadsOne G t r)
    → ((t : List ℕ) (x : Result ℕ E) → G t x → ParsesUnsigned 64 10 t x) → (n : ℕ) → IsNumberOf (rows_of f) id n → n < 2 ^ 64 → r ≡ Some n
number_read {E = E} f id G r value parses n says fits = by_read r (value says.0 (one_text-rows f id ∙ says.1)) where
  by_read : (r : Option ℕ) → ReadsOne G says.0 r → r ≡ Some n
  by_read (Some v) h = let read = parses says.0 (Ok v) h in ap Some (read.1 ∙ sym says.2.1)
  by_read None h = let unread = parses says.0 (Err h.0) h.1 in absurd (unread (says.2.0, subst (λ m. m < 2 ^ 64) says.2.1 fits))

-- The number of an option that has no default.
pub number_if_any : (rows : List Row) (id : Text) (least most : ℕ) (r : Option ℕ) → IfSome r (IsNumberOf rows id) → IfSome r (λ n. least ≤ n) → IfSome r (λ n. n ≤ most)
    → IfNone r (HasNoNumberWithin rows id least most) → IsNumberIfAny rows id least most r
number_if_any rows id least most None said low high none = none
number_if_any rows id least most (Some n) said low high none = (said, low, high)

-- A number that was read and is not within a range is none of the range.
pub out_of_range : (n v least most : ℕ) → Some v ≡ Some n → least ≤ n → n ≤ most → (least ≤ v → v ≤ most → ⊥) → ⊥
out_of_range n v least most e low high out = let same : v ≡ n = cc in out (subst (λ m. least ≤ m) (sym same) low) (subst (λ m. m ≤ most) (sym same) high)

pub at_none : {T P : Type 0} (r : Option T) → P → IfNone r P
at_none None p = p
at_none (Some x) p = tt

-- The text of an argument, or none.
pub text_or_none : (r : Option (Bor Text)) (d t : Bor Text) (o : Option Text) → t ≡ unwrap_or r d → d.now ≡ [] → option_map (λ s. s.now) r ≡ o → t.now ≡ unwrap_or o []
text_or_none None d t o e empty same = ap (λ s. s.now) e ∙ empty ∙ ap (λ x. unwrap_or x []) same
text_or_none (Some s) d t o e empty same = ap (λ s. s.now) e ∙ ap (λ x. unwrap_or x []) same

pub four_texts : (a b c d : Option (Bor Text)) (w x y z : Option Text) → text_of a ≡ w → text_of b ≡ x → text_of c ≡ y → text_of d ≡ z
    → map text_of (a ∷ b ∷ c ∷ d ∷ []) ≡ w ∷ x ∷ y ∷ z ∷ []
four_texts a b c d w x y z p q r s = cc

-- A parse that returned matches had no error.
pub no_fault : {T : Type 0} (faults : Kinds) (r : Result T Error) (x : T) → r ≡ Ok x → FailsBy faults r → faults ≡ []
no_fault faults (Ok y) x e h = h
no_fault faults (Err y) x e h = cc

-- The error of a parse is passed on.
pub fault_on : {T U : Type 0} (faults : Kinds) (r : Result T Error) (s : Result U Error) (e : Error) → r ≡ Err e → s ≡ Err e → FailsBy faults r → FailsBy faults s
fault_on faults (Ok y) s e p q h = cc
fault_on {U = U} faults (Err y) s e p q h =
    let same : y ≡ e = cc in
    subst (λ (x : Result U Error). FailsBy faults x) (sym q) (subst (HasKind faults) same h)

-- A flag that was read is set exactly if the text of the row is "true".
pub flag_said : (E : Type 0) (f : Found) (id : Text) (r : Option Bool) (flag : Bool) → flag ≡ unwrap_or r false → (one_text f id ≡ None → r ≡ None)
    → ((t : List ℕ) → one_text f id ≡ Some t → ReadsOne {E = E} ParsesBool t r) → IsFlagOf (rows_of f) id flag
flag_said E f id r flag is none value = subst (IsFlagOf (rows_of f) id) (sym is) (by_text (one_text f id) refl) where
  by_value : (t : Text) → one_of id (rows_of f) ≡ Some t → (r : Option Bool) → ReadsOne {E = E} ParsesBool t r → IsFlagOf (rows_of f) id (unwrap_or r false)
  by_value t e (Some true) h = e ∙ ap Some h
  by_value t e (Some false) h = λ same. let bad : Some (codes "false") ≡ Some (codes "true") = sym (e ∙ ap Some h) ∙ same in cc
  by_value t e None h = λ same. let bad : Some t ≡ Some (codes "true") = sym e ∙ same in absurd (h.1.0 cc)

  by_none : (r : Option Bool) → r ≡ None → one_of id (rows_of f) ≡ None → IsFlagOf (rows_of f) id (unwrap_or r false)
  by_none (Some b) e h = cc
  by_none None e h = λ same. let bad : None ≡ Some (codes "true") = sym h ∙ same in cc

  by_text : (o : Option Text) → one_text f id ≡ o → IsFlagOf (rows_of f) id (unwrap_or r false)
  by_text None e = by_none r (none e) (sym (one_text-rows f id) ∙ e)
  by_text (Some t) e = by_value t (sym (one_text-rows f id) ∙ e) r (value t e)
