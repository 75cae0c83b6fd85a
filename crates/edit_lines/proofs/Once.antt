-- A replay is a function of its first session and its lines.
use Rattle.std.proofs.Common.{◌≡◌, ℕ, ◌+◌, ◌≤◌, List, [], ◌∷◌, ◌++◌, length, refl, sym, ap, subst, ◌∙◌, arith, inl, inr}
use Rattle.std.specs.List.{concat}
use Rattle.machine.specs.Inputs.{Session}
use Rattle.edit_lines.specs.declared.line.Command.{Command}
use Rattle.edit_lines.specs.EditLine.{EditLine}
use Rattle.edit_lines.specs.Pieces.{words_of}
use Rattle.edit_lines.specs.Replay.{ExecutesLines, none, more, ReplayEnd, Finished, MalformedAt, TooLongAt, EndsAt, Replays, reply, session_after}
use Rattle.edit_lines.proofs.Grammar.{one_command}
use Rattle.edit_lines.specs.declared.limits.TheConstants.{LINE_LIMIT, LINES_LIMIT}

ends_once : (n : ℕ) (left : List (List ℕ)) (d e : ReplayEnd) → EndsAt n left d → EndsAt n left e → d ≡ e
ends_once n left (Finished j) (Finished k) p q = ap Finished (p.1 ∙ sym q.1)
ends_once n [] (Finished j) (MalformedAt k) p q = absurd q
ends_once n (l ∷ ls) (Finished j) (MalformedAt k) p q = let e = p.0 in absurd (cc)
ends_once n [] (Finished j) (TooLongAt k) p q = absurd q
ends_once n (l ∷ ls) (Finished j) (TooLongAt k) p q = let e = p.0 in absurd (cc)
ends_once n [] (MalformedAt j) e p q = absurd p
ends_once n (l ∷ ls) (MalformedAt j) (Finished k) p q = let e = q.0 in absurd (cc)
ends_once n (l ∷ ls) (MalformedAt j) (MalformedAt k) p q = ap MalformedAt (p.0 ∙ sym q.0)
ends_once n (l ∷ ls) (MalformedAt j) (TooLongAt k) p q = absurd (omega (arith, p.1, q.1))
ends_once n [] (TooLongAt j) e p q = absurd p
ends_once n (l ∷ ls) (TooLongAt j) (Finished k) p q = let e = q.0 in absurd (cc)
ends_once n (l ∷ ls) (TooLongAt j) (MalformedAt k) p q = absurd (omega (arith, p.1, q.1))
ends_once n (l ∷ ls) (TooLongAt j) (TooLongAt k) p q = ap TooLongAt (p.0 ∙ sym q.0)

-- A line that has a command, and is neither too long nor past the last, ends no replay.
not_ended : (n : ℕ) (l : List ℕ) (ls : List (List ℕ)) (c : Command) → EditLine l c → length l ≤ LINE_LIMIT → n + 1 ≤ LINES_LIMIT
    → (e : ReplayEnd) → EndsAt n (l ∷ ls) e → ⊥
not_ended n l ls c is short few (Finished k) p = let e = p.0 in cc
not_ended n l ls c is short few (MalformedAt k) p = elim p.2 [ inl past ↦ omega (arith, past, few, p.0) | inr nothing ↦ nothing c is ]
not_ended n l ls c is short few (TooLongAt k) p = omega (arith, short, p.1)

carried_once : (s t u : Session) (ds es ps qs : List (List ℕ)) (n m k : ℕ) (left others : List (List ℕ)) (d e : ReplayEnd)
    → ExecutesLines s ds ps t → ExecutesLines s es qs u → ds ++ left ≡ es ++ others
    → m ≡ n + length ds → k ≡ n + length es → m ≤ LINES_LIMIT → k ≤ LINES_LIMIT
    → EndsAt m left d → EndsAt k others e → (ps ≡ qs) × (t ≡ u) × (d ≡ e)
carried_once s t u [] [] ps qs n m k left others d e none none cut p q few few' x y =
    let same : k ≡ m = omega (arith, p, q) in
    let y' = subst (λ j. EndsAt j left e) same (subst (λ o. EndsAt k o e) (sym cut) y) in
    (refl, refl, ends_once m left d e x y')
carried_once s t u [] (l ∷ es) ps qs n m k left others d e none (more c short is rest) cut p q few few' x y =
    absurd (not_ended m l (es ++ others) c is short (omega (arith, p, q, few')) d (subst (λ o. EndsAt m o d) cut x))
carried_once s t u (l ∷ ds) [] ps qs n m k left others d e (more c short is rest) none cut p q few few' x y =
    absurd (not_ended k l (ds ++ left) c is short (omega (arith, p, q, few)) e (subst (λ o. EndsAt k o e) (sym cut) y))
carried_once s t u (l ∷ ds) (l' ∷ es) _ _ n m k left others d e (more c short is rest) (more c' short' is' rest') cut p q few few' x y =
    let line : l' ≡ l = cc in
    let tail : ds ++ left ≡ es ++ others = cc in
    let one : c' ≡ c = sym (one_command (words_of l) c c' is (subst (λ z. EditLine z c') line is')) in
    let again = carried_once (session_after s c) t u ds es _ _ (n + 1) m k left others d e rest (rw one at rest')
    tail (omega (arith, p)) (omega (arith, q)) few few' x y in
    (rw one (ap (λ rs. reply s c ∷ rs) again.0), again.1, again.2)

pub one_replay_lem : (first : Session) (lines : List (List ℕ)) (text other_text : List ℕ) (last other_last : Session) (end other_end : ReplayEnd)
    → Replays first lines text last end → Replays first lines other_text other_last other_end
    → (text ≡ other_text) × (last ≡ other_last) × (end ≡ other_end)
one_replay_lem first lines text other_text last other_last end other_end p q =
    let all = carried_once first last other_last p.done q.done p.replies q.replies 0 (length p.done) (length q.done) p.left q.left end other_end
    p.executed q.executed (sym p.cut ∙ q.cut) (omega arith) (omega arith) p.few q.few p.ends q.ends in
    (p.written ∙ ap concat all.0 ∙ sym q.written, all.1, all.2)
