-- Page zero from its parts.
use Rattle.std.proofs.Common.{◌≡◌, ℕ, suc, ◌+◌, ◌-◌, ◌<◌, ◌≤◌, List, [], ◌∷◌, ◌++◌, length, drop, replicate, refl, sym, ◌∙◌, ap, arith, append_assoc}
use Rattle.std.proofs.lemmas.List.{take_at, drop_at, length-append, length-replicate, append-nil, drop-replicate}
use Rattle.std.proofs.Math.Seq.{drop-append-add}
use Rattle.command_tail.specs.Words.{drive_and_name}
use Rattle.command_tail.specs.PageZero.{with_bytes_at, tail_cells}
use Rattle.command_tail.proofs.Fields.{length_named}

-- A part of a list is replaced by one of the same length.
placed : (front old new back : List ℕ) (at : ℕ) → length front ≡ at → length old ≡ length new → with_bytes_at (front ++ (old ++ back)) at new ≡ front ++ (new ++ back)
placed front old new back at f l =
    ap (λ r. r ++ (new ++ drop (at + length new) (front ++ (old ++ back)))) (take_at front (old ++ back) at f)
    ∙ ap (λ k. front ++ (new ++ drop (k + length new) (front ++ (old ++ back)))) (sym f)
    ∙ ap (λ r. front ++ (new ++ r)) (drop-append-add front (old ++ back) (length new) ∙ drop_at old back (length new) l)

-- Three parts of a page are replaced; the parts between them stay.
parts_placed : (a x b y c z p q r : List ℕ) (m n : ℕ) → m ≡ length a + 12 + length b → n ≡ m + 12 + length c → length x ≡ 12 → length p ≡ 12 → length y ≡ 12 → length q ≡ 12 → length z ≡ length r
    → with_bytes_at (with_bytes_at (with_bytes_at (a ++ (x ++ (b ++ (y ++ (c ++ z))))) (length a) p) m q) n r ≡ ((((a ++ p) ++ b) ++ q) ++ c) ++ r
parts_placed a x b y c z p q r m n em en lx lp ly lq lz =
    let first : with_bytes_at (a ++ (x ++ (b ++ (y ++ (c ++ z))))) (length a) p ≡ (a ++ (p ++ b)) ++ (y ++ (c ++ z)) =
    placed a x p (b ++ (y ++ (c ++ z))) (length a) refl (lx ∙ sym lp) ∙ simp append_assoc in
    let second : with_bytes_at ((a ++ (p ++ b)) ++ (y ++ (c ++ z))) m q ≡ (a ++ (p ++ (b ++ (q ++ c)))) ++ (z ++ []) =
    placed (a ++ (p ++ b)) y q (c ++ z) m (omega (arith, length-append a (p ++ b), length-append p b)) (ly ∙ sym lq) ∙ simp (append_assoc, append-nil) in
    let third : with_bytes_at ((a ++ (p ++ (b ++ (q ++ c)))) ++ (z ++ [])) n r ≡ a ++ (p ++ (b ++ (q ++ (c ++ r)))) =
    placed (a ++ (p ++ (b ++ (q ++ c)))) z r [] n (omega (arith, length-append {A = ℕ})) lz ∙ simp (append_assoc, append-nil) in
    ap (λ l. with_bytes_at (with_bytes_at l m q) n r) first ∙ ap (λ l. with_bytes_at l n r) second ∙ third ∙ simp append_assoc

length_tail : (tail : List ℕ) → length tail ≤ 126 → length (tail_cells tail) ≡ 128
length_tail [] h = refl
length_tail (b ∷ bs) h =
    let zeros : List ℕ = replicate (126 - length (b ∷ bs)) 0 in
    let count : length zeros ≡ 126 - length (b ∷ bs) = length-replicate (126 - length (b ∷ bs)) 0 in
    omega (arith, length-append bs zeros)

-- The jumps, two names and the tail, written over zeros.
pub page_made : (first second tail p1 p2 p3 p4 : List ℕ) → length tail ≤ 126
    → p1 ≡ with_bytes_at (replicate 256 0) 0 (0xc3 ∷ 0x03 ∷ 0xff ∷ 0 ∷ 0 ∷ 0xc3 ∷ 0x06 ∷ 0xfe ∷ []) → p2 ≡ with_bytes_at p1 92 (drive_and_name first) → p3 ≡ with_bytes_at p2 108 (drive_and_name second) → p4 ≡ with_bytes_at p3 128 (tail_cells tail)
    → p4 ≡ (((((0xc3 ∷ 0x03 ∷ 0xff ∷ 0 ∷ 0 ∷ 0xc3 ∷ 0x06 ∷ 0xfe ∷ []) ++ replicate 84 0) ++ drive_and_name first) ++ replicate 4 0) ++ drive_and_name second) ++ replicate 8 0 ++ tail_cells tail
page_made first second tail p1 p2 p3 p4 h e1 e2 e3 e4 =
    e4 ∙ ap (λ l. with_bytes_at l 128 (tail_cells tail)) (e3 ∙ ap (λ l. with_bytes_at l 108 (drive_and_name second)) (e2 ∙ ap (λ l. with_bytes_at l 92 (drive_and_name first)) e1))
    ∙ parts_placed ((0xc3 ∷ 0x03 ∷ 0xff ∷ 0 ∷ 0 ∷ 0xc3 ∷ 0x06 ∷ 0xfe ∷ []) ++ replicate 84 0) (replicate 12 0) (replicate 4 0) (replicate 12 0) (replicate 8 0) (replicate 128 0)
    (drive_and_name first) (drive_and_name second) (tail_cells tail) 108 128 refl refl refl (length_named first) refl (length_named second) (sym (length_tail tail h))

-- A tail written after its length and a blank.
pub tail_made : (tail cells : List ℕ) → 0 < length tail → length tail ≤ 126 → cells ≡ with_bytes_at ((length tail + 1) ∷ 32 ∷ replicate 126 0) 2 tail → cells ≡ tail_cells tail
tail_made [] cells h k e = absurd (omega arith)
tail_made (b ∷ bs) cells h k e =
    let behind : 2 + length (b ∷ bs) ≡ suc (suc (length (b ∷ bs))) = omega arith in
    let zeros : drop (length (b ∷ bs)) (replicate 126 0) ≡ replicate (126 - length (b ∷ bs)) 0 = drop-replicate (length (b ∷ bs)) 126 0 in
    let all : List ℕ = (length (b ∷ bs) + 1) ∷ 32 ∷ replicate 126 0 in
    e ∙ ap (λ (n : ℕ). (length (b ∷ bs) + 1) ∷ 32 ∷ ((b ∷ bs) ++ drop n all)) behind ∙ ap (λ (r : List ℕ). (length (b ∷ bs) + 1) ∷ 32 ∷ ((b ∷ bs) ++ r)) zeros
