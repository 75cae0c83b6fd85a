-- A text that is sent in parts.
use Rattle.std.proofs.Common.{◌≡◌, ℕ, ◌+◌, ◌≤◌, List, ◌++◌, length, take, drop, ap, ◌∙◌, arith, length-append, Option, Result, Ok, Err, OnErr, false}
use Rattle.std.proofs.lemmas.List.{take-append-le, length-take, take_all}
use Rattle.std.proofs.Math.Seq.{take-add, take-append-add}
use Rattle.std.specs.Io.KnownBytes.{Appends}
use Rattle.std.specs.Result.{is_ok}
use Rattle.std.proofs.KnownBytes.{Appends-trans}

-- m more bytes are written.
pub Appends-more : (a b c : Option (List ℕ)) (n m : ℕ) (t r : List ℕ) → r ≡ drop n t → Appends a b (take n t) → Appends b c (take m r) → Appends a c (take (n + m) t)
Appends-more a b c n m t r e p q = rw (take-add n m t, ← e) (Appends-trans a b c (take n t) (take m r) p q)

-- A piece is pushed after what was sent.
pub prefix_kept : (sent said piece : List ℕ) → take (length sent) said ≡ sent → take (length sent) (said ++ piece) ≡ sent
prefix_kept sent said piece e =
    let n = ap length e in
    take-append-le (length sent) said piece (omega (arith, n, length-take (length sent) said)) ∙ e

-- All was sent, and then the first n bytes of the next piece.
pub prefix_more : (sent piece : List ℕ) (n : ℕ) → n ≤ length piece → take (length (sent ++ take n piece)) (sent ++ piece) ≡ sent ++ take n piece
prefix_more sent piece n h =
    rw (length-append sent (take n piece))
    (take-append-add sent piece (length (take n piece)) ∙ ap (λ k. sent ++ take k piece) (length-take n piece ∙ omega arith))

pub all_more : (sent piece : List ℕ) (n : ℕ) → n ≡ length piece → sent ++ take n piece ≡ sent ++ piece
all_more sent piece n e = ap (λ t. sent ++ t) (take_all n piece (omega (arith, e)))

-- What an error says, if there was no success.
pub on_error : {T E P : Type 0} (r : Result T E) → is_ok r ≡ false → OnErr r P → P
on_error (Ok x) failed p = absurd (cc)
on_error (Err e) failed p = p
