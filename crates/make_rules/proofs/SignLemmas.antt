-- How make reads the paths and the calls of a written line, one after the other.
use Rattle.std.proofs.Common.{◌≡◌, ℕ, zero, suc, refl, ◌+◌, ◌/◌, ◌%◌, ◌==◌, ◌||◌, eqb, Bool, true, false, if◌then◌else◌, List, [], ◌∷◌, ◌++◌, map, replicate, inl, inr, ap, ap₂, sym, ◌∙◌, append_assoc, append-nil, add-one, arith}
use Rattle.std.proofs.lemmas.Bool.{eqb-true, true≢false}
use Rattle.std.proofs.lemmas.Bool.Decides.{eqb_tells}
use Rattle.std.specs.List.{flat_map, list_any}
use Rattle.folders.specs.FileSystem.{Path}
use Rattle.make_rules.specs.Carried.{has_meaning, has_meaning_in_call}
use Rattle.make_rules.specs.Escapes.{argument, backslashes, doubled, escaped, escaped_from, prerequisite}
use Rattle.make_rules.specs.Reading.{Sign, Named, Mark, Backslashes, Call, after_blanks, signs, slashed}

pub or_false : (x y : Bool) → (x || y) ≡ false → (x ≡ false) × (y ≡ false)
or_false false y h = (refl, h)
or_false true y h = absurd (true≢false h)

-- ---- backslashes

slashed_suc : (n : ℕ) (s : List Sign) → slashed (suc n) s ≡ slashed n (Named 92 ∷ s)
slashed_suc zero s = refl
slashed_suc (suc n) s = ap (λ t. Named 92 ∷ t) (slashed_suc n s)

slashed_more : (n : ℕ) (s : List Sign) → slashed (n + 1) s ≡ slashed n (Named 92 ∷ s)
slashed_more n s = ap (λ m. slashed m s) (add-one n) ∙ slashed_suc n s

half_of_odd : (n : ℕ) → (n + (n + 1)) / 2 ≡ n
half_of_odd n = omega arith

odd_rest : (n : ℕ) → (n + (n + 1)) % 2 ≡ 1
odd_rest n = omega arith

-- ---- a path is read as its bytes

-- No backslash is left at the end.
abbrev pub ends_plainly : ℕ → Path → Bool
ends_plainly n [] = n == 0
ends_plainly n (b ∷ bs) = ends_plainly (backslashes n b) bs

-- What a byte of a path is: a backslash, `$`, one that is written after a backslash, or one without a meaning.
data Kind (b : ℕ) : Type 0 where
  slash : b ≡ 92 → Kind b
  dollar : b ≡ 36 → Kind b
  blank : b ≡ 32 → Kind b
  hash : b ≡ 35 → Kind b
  plain : eqb b 92 ≡ false → eqb b 36 ≡ false → eqb b 32 ≡ false → eqb b 35 ≡ false → eqb b 58 ≡ false → Kind b

kind : (b : ℕ) → has_meaning b ≡ false → Kind b
kind b none = elim (eqb_tells b 92) [
  | inl e ↦ slash e.1
  | inr e ↦ elim (eqb_tells b 36) [
    | inl f ↦ dollar f.1
    | inr f ↦ elim (eqb_tells b 32) [
      | inl g ↦ blank g.1
      | inr g ↦ elim (eqb_tells b 35) [
        | inl h ↦ hash h.1
        | inr h ↦ elim (eqb_tells b 58) [
          | inl c ↦ absurd (true≢false (sym (ap has_meaning c.1) ∙ none))
          | inr c ↦ plain e.0 f.0 g.0 h.0 c.0
        ]
      ]
    ]
  ]
]

plain_escape : (n b : ℕ) (bs : Path) → eqb b 92 ≡ false → eqb b 36 ≡ false → eqb b 32 ≡ false → eqb b 35 ≡ false → escaped_from n (b ∷ bs) ≡ b ∷ escaped bs
plain_escape n b bs s d l h = simp (s, d, l, h) refl

plain_doubled : (b : ℕ) (bs : Path) → eqb b 36 ≡ false → doubled (b ∷ bs) ≡ b ∷ doubled bs
plain_doubled b bs d = rw d refl

module _ (exists : Path → Bool) where
  -- Backslashes are counted.
  counted : (n k : ℕ) (rest : List ℕ) → signs exists (Backslashes n) (replicate k 92 ++ rest) ≡ signs exists (Backslashes (n + k)) rest
  counted n zero rest = ap (λ m. signs exists (Backslashes m) rest) (omega arith)
  counted n (suc k) rest = counted (n + 1) k rest ∙ ap (λ m. signs exists (Backslashes m) rest) (omega arith)

  -- A blank or `#` after n backslashes, as it is written.
  quoted : (n b : ℕ) (bs : Path) (rest : List ℕ)
      → ((m : ℕ) (t : List ℕ) → signs exists (Backslashes m) (b ∷ t) ≡ slashed (m / 2) ((if m % 2 == 0 then Mark b else Named b) ∷ signs exists (Backslashes 0) t))
      → signs exists (Backslashes n) ((replicate (n + 1) 92 ++ b ∷ escaped bs) ++ rest) ≡ slashed n (Named b ∷ signs exists (Backslashes 0) (escaped bs ++ rest))
  quoted n b bs rest marks =
      ap (signs exists (Backslashes n)) (append_assoc (replicate (n + 1) 92) (b ∷ escaped bs) rest) ∙ counted n (n + 1) (b ∷ (escaped bs ++ rest))
      ∙ marks (n + (n + 1)) (escaped bs ++ rest)
      ∙ ap₂ (λ h r. slashed h ((if r == 0 then Mark b else Named b) ∷ signs exists (Backslashes 0) (escaped bs ++ rest))) (half_of_odd n) (odd_rest n)

  plain_step : (n b : ℕ) (t : List ℕ) → eqb b 92 ≡ false → eqb b 36 ≡ false → eqb b 32 ≡ false → eqb b 35 ≡ false → eqb b 58 ≡ false
      → signs exists (Backslashes n) (b ∷ t) ≡ slashed n (Named b ∷ signs exists (Backslashes 0) t)
  plain_step n b t s d l h c = simp (s, d, l, h, c) refl

  module _ (bs : Path) (rest : List ℕ) (later : (m : ℕ) → ends_plainly m bs ≡ true
      → signs exists (Backslashes m) (escaped_from m bs ++ rest) ≡ slashed m (map Named bs ++ signs exists (Backslashes 0) rest)) where
    by_kind : (n b : ℕ) → Kind b → ends_plainly (backslashes n b) bs ≡ true
        → signs exists (Backslashes n) (escaped_from n (b ∷ bs) ++ rest) ≡ slashed n (map Named (b ∷ bs) ++ signs exists (Backslashes 0) rest)
    by_kind n b (slash e) ends =
        rw e (later (n + 1) (ap (λ c. ends_plainly (backslashes n c) bs) (sym e) ∙ ends) ∙ slashed_more n (map Named bs ++ signs exists (Backslashes 0) rest))
    by_kind n b (dollar e) ends =
        rw e (ap (λ t. slashed n (Named 36 ∷ t)) (later 0 (ap (λ c. ends_plainly (backslashes n c) bs) (sym e) ∙ ends)))
    by_kind n b (blank e) ends =
        rw e (quoted n 32 bs rest (λ m t. refl) ∙ ap (λ t. slashed n (Named 32 ∷ t)) (later 0 (ap (λ c. ends_plainly (backslashes n c) bs) (sym e) ∙ ends)))
    by_kind n b (hash e) ends =
        rw e (quoted n 35 bs rest (λ m t. refl) ∙ ap (λ t. slashed n (Named 35 ∷ t)) (later 0 (ap (λ c. ends_plainly (backslashes n c) bs) (sym e) ∙ ends)))
    by_kind n b (plain s d l h c) ends =
        ap (λ t. signs exists (Backslashes n) (t ++ rest)) (plain_escape n b bs s d l h) ∙ plain_step n b (escaped bs ++ rest) s d l h c
        ∙ ap (λ t. slashed n (Named b ∷ t)) (later 0 (ap (λ x. ends_plainly (if x then n + 1 else 0) bs) (sym s) ∙ ends))

  pub path_signs : (n : ℕ) (path : Path) (rest : List ℕ) → list_any has_meaning path ≡ false → ends_plainly n path ≡ true
      → signs exists (Backslashes n) (escaped_from n path ++ rest) ≡ slashed n (map Named path ++ signs exists (Backslashes 0) rest)
  path_signs n [] rest none ends = rw (eqb-true n 0 ends) refl
  path_signs n (b ∷ bs) rest none ends =
      let h = or_false (has_meaning b) (list_any has_meaning bs) none in
      by_kind bs rest (λ m e. path_signs m bs rest h.1 e) n b (kind b h.0) ends

  -- ---- paths after blanks

  -- Each path of a list has no meaning and no backslash at its end.
  abbrev pub AllPlain : List Path → Type 0
  AllPlain [] = Unit {0}
  AllPlain (p ∷ ps) = (list_any has_meaning p ≡ false) × (ends_plainly 0 p ≡ true) × AllPlain ps

  pub prerequisite_signs : (paths : List Path) (rest : List ℕ) → AllPlain paths
      → signs exists (Backslashes 0) (flat_map prerequisite paths ++ rest) ≡ after_blanks paths ++ signs exists (Backslashes 0) rest
  prerequisite_signs [] rest h = refl
  prerequisite_signs (p ∷ ps) rest h =
      ap (λ t. signs exists (Backslashes 0) (32 ∷ t)) (append_assoc (escaped p) (flat_map prerequisite ps) rest)
      ∙ ap (λ t. Mark 32 ∷ t) (path_signs 0 p (flat_map prerequisite ps ++ rest) h.0 h.1 ∙ ap (λ t. map Named p ++ t) (prerequisite_signs ps rest h.2)
      ∙ sym (append_assoc (map Named p) (after_blanks ps) (signs exists (Backslashes 0) rest)))

  -- ---- paths in a call

  call_step : (call : List Sign) (b : ℕ) (t : List ℕ) → eqb b 36 ≡ false → eqb b 41 ≡ false → eqb b 32 ≡ false
      → signs exists (Call call) (b ∷ t) ≡ signs exists (Call (call ++ Named b ∷ [])) t
  call_step call b t d p l = simp (d, p, l) refl

  pub argument_signs : (call : List Sign) (path : Path) (rest : List ℕ) → list_any has_meaning_in_call path ≡ false
      → signs exists (Call call) (doubled path ++ rest) ≡ signs exists (Call (call ++ map Named path)) rest
  argument_signs call [] rest none = ap (λ t. signs exists (Call t) rest) (sym (append-nil call))
  argument_signs call (b ∷ bs) rest none =
      let h = or_false (has_meaning_in_call b) (list_any has_meaning_in_call bs) none in
      let later = argument_signs (call ++ Named b ∷ []) bs rest h.1 ∙ ap (λ t. signs exists (Call t) rest) (append_assoc call (Named b ∷ []) (map Named bs)) in
      elim (eqb_tells b 36) [
        | inl e ↦ (let here : signs exists (Call call) (doubled (b ∷ bs) ++ rest) ≡ signs exists (Call (call ++ Named b ∷ [])) (doubled bs ++ rest) = rw e.1 refl in here ∙ later)
        | inr e ↦ elim (eqb_tells b 41) [
          | inl f ↦ absurd (true≢false (sym (ap has_meaning_in_call f.1) ∙ h.0))
          | inr f ↦ elim (eqb_tells b 32) [
            | inl g ↦ absurd (true≢false (sym (ap has_meaning_in_call g.1) ∙ h.0))
            | inr g ↦ ap (λ t. signs exists (Call call) (t ++ rest)) (plain_doubled b bs e.0) ∙ call_step call b (doubled bs ++ rest) e.0 f.0 g.0 ∙ later
          ]
        ]
      ]

  -- Each path of a list can be in a call.
  abbrev pub AllInCall : List Path → Type 0
  AllInCall [] = Unit {0}
  AllInCall (p ∷ ps) = (list_any has_meaning_in_call p ≡ false) × AllInCall ps

  pub arguments_signs : (call : List Sign) (paths : List Path) (rest : List ℕ) → AllInCall paths
      → signs exists (Call call) (flat_map argument paths ++ rest) ≡ signs exists (Call (call ++ after_blanks paths)) rest
  arguments_signs call [] rest h = ap (λ t. signs exists (Call t) rest) (sym (append-nil call))
  arguments_signs call (p ∷ ps) rest h =
      ap (λ t. signs exists (Call (call ++ Mark 32 ∷ [])) t) (append_assoc (doubled p) (flat_map argument ps) rest)
      ∙ argument_signs (call ++ Mark 32 ∷ []) p (flat_map argument ps ++ rest) h.0
      ∙ arguments_signs ((call ++ Mark 32 ∷ []) ++ map Named p) ps rest h.1
      ∙ ap (λ t. signs exists (Call t) rest) (append_assoc (call ++ Mark 32 ∷ []) (map Named p) (after_blanks ps)
      ∙ append_assoc call (Mark 32 ∷ []) (map Named p ++ after_blanks ps))
