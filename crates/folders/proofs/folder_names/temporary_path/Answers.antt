use Rattle.std.proofs.Common.{◌≡◌, ◌≢◌, ◌∙◌, ◌<◌, ◌++◌, ◌∷◌, [], ℕ, List, None, IfOk, ap, append_assoc, codes, drop, get_or, length, lit<, refl, rules, string_bytes, subst, sym, take}
use Rattle.std.proofs.lemmas.List.{take-append-drop}
use Rattle.std.proofs.lemmas.Result.{IfOk-weaker}
use Rattle.std.proofs.lemmas.Str.Pattern.{rfind_char}
use Rattle.std.specs.Str.{NoCharPasses}
use Rattle.std.specs.Str.Pattern.{RFindsChar, SplitsAroundMatch}
use Rattle.std.specs.Prelude.{◌==◌}
use Rattle.folders.specs.Temporaries.{IsTemporaryOf, short_name, suffix, temporary_name}
use Rattle.folders.proofs.EntryLemmas.{dotted_key}
use Rattle.folders.proofs.folder_names.temporary_path.Goals as goal

no_slash : (name : List ℕ) → NoCharPasses (λ d. d == 47) name → (i : ℕ) → i < length name → get_or name i 0 ≢ 47
no_slash name none = rfind_char 47 name None none (lit< tt)

-- The name is what comes after the last `/`.
after_slash : (number : ℕ) (path folder name : List ℕ) → SplitsAroundMatch (RFindsChar 47) path folder name → IsTemporaryOf path (folder ++ codes "/." ++ short_name name ++ suffix number)
unfolding lib.Utf8.encode
after_slash number path folder name h =
    let (i, j, found, front, back, le, fits, rest) = h in
    let whole : path ≡ folder ++ 47 ∷ name = sym (take-append-drop i path) ∙ ap (λ t. take i path ++ t) found.1.split ∙ (let rest : take i path ++ 47 ∷ drop j path ≡ folder ++ 47 ∷ name = cc in rest) in
    record {
      folder = folder ++ 47 ∷ [];
      name = name;
      number = number;
      path_is = whole ∙ sym (append_assoc folder (47 ∷ []) name);
      temporary_is = append_assoc (folder ++ codes "/.") (short_name name) (suffix number) ∙ append_assoc folder (codes "/.") (short_name name ++ suffix number)
          ∙ sym (append_assoc folder (47 ∷ []) (temporary_name name number));
      without_slash = no_slash name (subst (NoCharPasses (λ d. d == 47)) (sym back) found.0);
      passed_over = dotted_key (short_name name ++ suffix number);
    }

pub returns-in-Some : goal.returns-in-Some
returns-in-Some c =
    let number = c.args.number in
    IfOk-weaker c.temporary_in.result _ _ (λ s e. subst (IsTemporaryOf c.args.path.now) (sym (e ∙ ap (λ t. c.in-Some.folder.now ++ codes "/." ++ c.short_name.result.now ++ t) (c.as_str.ensures.value ∙ c.in_ok-suffix.ensures)
    ∙ ap (λ t. c.in-Some.folder.now ++ codes "/." ++ t ++ suffix number) c.short_name.ensures))
    (after_slash number c.args.path.now c.in-Some.folder.now c.in-Some.name.now c.in-Some.ensures.cases)) c.temporary_in.ensures

pub returns : goal.returns
returns c =
    let number = c.args.number in
    let path = c.args.path.now in
    let text : IfOk c.format.result (λ s. string_bytes s ≡ codes "." ++ c.short_name-name.result.now ++ suffix number) = search rules in
    IfOk-weaker c.format.result _ _ (λ s e. record { folder = []; name = path; number = number; path_is = refl; temporary_is = e ∙ ap (λ t. codes "." ++ t ++ suffix number) c.short_name-name.ensures; without_slash = no_slash path c.in-None.ensures.cases; passed_over = dotted_key (short_name path ++ suffix number) }) text
