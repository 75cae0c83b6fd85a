use Rattle.std.proofs.Common.{◌≡◌, ◌≤◌, ◌<◌, ◌*◌, ◌+◌, ◌⊎◌, ℕ, Bool, true, false, inl, inr, refl, arith}
use Rattle.pagemem.specs.Known.{is_known}
use Rattle.pagemem.proofs.KnownLemmas.{none_past}
use Rattle.pagemem.proofs.overlay.remove_written.Goals as goal

later : (q page : ℕ) → 256 * page ≤ q → (q < 256 * page) ⊎ (256 * page + 256 ≤ q) → 256 * (page + 1) ≤ q
later q page low (inl below) = absurd (omega (arith, low, below))
later q page low (inr past) = omega (arith, past)

pub loop-page-init : goal.loop-page-init
loop-page-init c q h = (omega arith, h)

pub loop-page-preserved : goal.loop-page-preserved
loop-page-preserved c q h =
    let e = c.remove_written_in.ensures in
    let i = c.loop-page.invariant q (e.kept q h) in
    (later q c.loop-page.page i.0 (e.gone q h), i.1)

-- A cell is not known if it would have to be past the last one.
unknown : (b : Bool) (q : ℕ) → (b ≡ true → 65536 ≤ q) → (65536 ≤ q → b ≡ false) → b ≡ false
unknown true q past none = none (past refl)
unknown false q past none = refl

pub returns : goal.returns
returns c q =
    let k = c.loop-page.known in
    unknown (is_known k q) q (λ h. let i = c.loop-page.invariant q h in omega (arith, i.0)) (λ past. none_past k.marks.items q (let e = k.all_marks in omega (arith, e)) k.end past)
