-- A splice is an insertion or a removal, after which the rest is overwritten.
use Rattle.std.proofs.Common.{◌≡◌, ℕ, ◌+◌, ◌-◌, ◌<◌, ◌≤◌, List, [], ◌++◌, length, take, drop, refl, sym, ◌∙◌, ap, arith, append_assoc, take-append-drop, length-append}
use Rattle.std.proofs.lemmas.List.{take_all, take_at, drop_at, length-take-le, length-drop, append-nil}
use Rattle.machine.specs.Session.{splice, written_over}

-- A splice of a middle part.
at_seams : (first middle last bytes : List ℕ) (at removed : ℕ) → length first ≡ at → length middle ≡ removed → splice (first ++ middle ++ last) at removed bytes ≡ first ++ bytes ++ last
at_seams first middle last bytes at removed e m =
    let before : take at (first ++ middle ++ last) ≡ first = ap (take at) (append_assoc first middle last) ∙ take_at first (middle ++ last) at e in
    let behind : drop (at + removed) (first ++ middle ++ last) ≡ last = drop_at (first ++ middle) last (at + removed) (length-append first middle ∙ omega (arith, e, m)) in
    ap (λ (l : List ℕ). l ++ bytes ++ drop (at + removed) (first ++ middle ++ last)) before ∙ ap (λ (l : List ℕ). first ++ bytes ++ l) behind

-- More bytes than are removed: the excess bytes are inserted first.
grown : (list bytes : List ℕ) (at removed : ℕ) → at + removed ≤ length list → removed < length bytes
    → written_over (splice list (at + removed) 0 (drop removed bytes)) at (take removed bytes) ≡ splice list at removed bytes
grown list bytes at removed inside more =
    let first : List ℕ = take at list in
    let middle : List ℕ = take removed (drop at list) in
    let last : List ℕ = drop removed (drop at list) in
    let some : List ℕ = take removed bytes in
    let others : List ℕ = drop removed bytes in
    let count : length first ≡ at = length-take-le at list (omega (arith, inside)) in
    let long : length middle ≡ removed = length-take-le removed (drop at list) (omega (arith, inside, length-drop at list)) in
    let as_long : length some ≡ removed = length-take-le removed bytes (omega (arith, more)) in
    let whole : first ++ middle ++ last ≡ list = append_assoc first middle last ∙ ap (λ (l : List ℕ). first ++ l) (take-append-drop removed (drop at list)) ∙ take-append-drop at list in
    let both : length (first ++ middle) ≡ at + removed = length-append first middle ∙ omega (arith, count, long) in
    let empty : first ++ middle ++ [] ++ last ≡ list = ap (λ (l : List ℕ). l ++ last) (append-nil (first ++ middle)) ∙ whole in
    let inserted : splice list (at + removed) 0 others ≡ first ++ middle ++ (others ++ last) =
    ap (λ (l : List ℕ). splice l (at + removed) 0 others) (sym empty) ∙ at_seams (first ++ middle) [] last others (at + removed) 0 both refl ∙ append_assoc (first ++ middle) others last in
    let over : written_over (first ++ middle ++ (others ++ last)) at some ≡ first ++ some ++ (others ++ last) = at_seams first middle (others ++ last) some at (length some) count (long ∙ sym as_long) in
    let joined : first ++ some ++ (others ++ last) ≡ first ++ bytes ++ last =
    sym (append_assoc (first ++ some) others last) ∙ ap (λ (l : List ℕ). l ++ last) (append_assoc first some others ∙ ap (λ (l : List ℕ). first ++ l) (take-append-drop removed bytes)) in
    ap (λ (l : List ℕ). written_over l at some) inserted ∙ over ∙ joined ∙ sym (ap (λ (l : List ℕ). splice l at removed bytes) (sym whole) ∙ at_seams first middle last bytes at removed count long)

-- No more bytes than are removed: the excess bytes are removed first.
pub shrunk : (list bytes : List ℕ) (at removed : ℕ) → at + removed ≤ length list → length bytes ≤ removed
    → written_over (splice list (at + length bytes) (removed - length bytes) []) at bytes ≡ splice list at removed bytes
shrunk list bytes at removed inside fewer =
    let first : List ℕ = take at list in
    let rest : List ℕ = drop at list in
    let middle : List ℕ = take (length bytes) rest in
    let gone : List ℕ = take (removed - length bytes) (drop (length bytes) rest) in
    let last : List ℕ = drop (removed - length bytes) (drop (length bytes) rest) in
    let count : length first ≡ at = length-take-le at list (omega (arith, inside)) in
    let long : length middle ≡ length bytes = length-take-le (length bytes) rest (omega (arith, inside, fewer, length-drop at list)) in
    let long_gone : length gone ≡ removed - length bytes = length-take-le (removed - length bytes) (drop (length bytes) rest) (omega (arith, inside, fewer, length-drop at list, length-drop (length bytes) rest)) in
    let both : length (first ++ middle) ≡ at + length bytes = length-append first middle ∙ omega (arith, count, long) in
    let removed_all : length (middle ++ gone) ≡ removed = length-append middle gone ∙ omega (arith, long, long_gone, fewer) in
    let whole : first ++ middle ++ gone ++ last ≡ list =
    append_assoc (first ++ middle) gone last ∙ ap (λ (l : List ℕ). first ++ middle ++ l) (take-append-drop (removed - length bytes) (drop (length bytes) rest)) ∙ append_assoc first middle _
    ∙ ap (λ (l : List ℕ). first ++ l) (take-append-drop (length bytes) rest) ∙ take-append-drop at list in
    let taken : splice list (at + length bytes) (removed - length bytes) [] ≡ first ++ middle ++ last =
    ap (λ (l : List ℕ). splice l (at + length bytes) (removed - length bytes) []) (sym whole) ∙ at_seams (first ++ middle) gone last [] (at + length bytes) (removed - length bytes) both long_gone
    ∙ ap (λ (l : List ℕ). l ++ last) (append-nil (first ++ middle)) in
    let over : written_over (first ++ middle ++ last) at bytes ≡ first ++ bytes ++ last = at_seams first middle last bytes at (length bytes) count long in
    let as_one : first ++ (middle ++ gone) ++ last ≡ list = ap (λ (l : List ℕ). l ++ last) (sym (append_assoc first middle gone)) ∙ whole in
    ap (λ (l : List ℕ). written_over l at bytes) taken ∙ over ∙ sym (ap (λ (l : List ℕ). splice l at removed bytes) (sym as_one) ∙ at_seams first (middle ++ gone) last bytes at removed count removed_all)

-- The insertion with the number of excess bytes.
pub grown_by : (list bytes : List ℕ) (at removed : ℕ) → at + removed ≤ length list → removed < length bytes
    → written_over (splice list (at + removed) 0 (take (length bytes - removed) (drop removed bytes))) at (take removed bytes) ≡ splice list at removed bytes
grown_by list bytes at removed inside more =
    let all : take (length bytes - removed) (drop removed bytes) ≡ drop removed bytes = take_all (length bytes - removed) (drop removed bytes) (omega (arith, length-drop removed bytes)) in
    ap (λ (l : List ℕ). written_over (splice list (at + removed) 0 l) at (take removed bytes)) all ∙ grown list bytes at removed inside more
