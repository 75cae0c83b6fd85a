-- The name of a file in its path.
use Rattle.std.proofs.Common.{◌≡◌, ◌≢◌, ◌∙◌, ◌<◌, ◌++◌, ◌∷◌, ℕ, List, None, ap, drop, get_or, inl, inr, length, lit<, refl, subst, sym, take}
use Rattle.std.proofs.lemmas.List.{take-append-drop}
use Rattle.std.proofs.lemmas.Str.Pattern.{rfind_char}
use Rattle.std.specs.Str.{NoCharPasses}
use Rattle.std.specs.Str.Pattern.{RFindsChar, SplitsAroundMatch}
use Rattle.std.specs.Prelude.{◌==◌}
use Rattle.disks.specs.Given.{IsNameOf}

no_slash : (name : List ℕ) → NoCharPasses (λ d. d == 47) name → (i : ℕ) → i < length name → get_or name i 0 ≢ 47
no_slash name none = rfind_char 47 name None none (lit< tt)

-- What comes after the last `/`.
pub after_slash : (path folder name : List ℕ) → SplitsAroundMatch (RFindsChar 47) path folder name → IsNameOf path name
unfolding lib.Utf8.encode
after_slash path folder name h =
    let (i, j, found, front, back, le, fits, rest) = h in
    let whole : path ≡ folder ++ 47 ∷ name = sym (take-append-drop i path) ∙ ap (λ t. take i path ++ t) found.1.split ∙ (let rest : take i path ++ 47 ∷ drop j path ≡ folder ++ 47 ∷ name = cc in rest) in
    record { split = inr (folder, whole); without_slash = no_slash name (subst (NoCharPasses (λ d. d == 47)) (sym back) found.0) }

-- A path without a `/` is a name.
pub whole_path : (path : List ℕ) → NoCharPasses (λ d. d == 47) path → IsNameOf path path
whole_path path none = record { split = inl refl; without_slash = no_slash path none }
