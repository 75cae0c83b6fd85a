-- Zeros at one more record number.
use Rattle.std.proofs.Common.{◌≡◌, ◌≤◌, ◌+◌, ◌-◌, ℕ, suc, sym, ap, ◌∙◌, refl, arith}
use Rattle.std.specs.FinMap as finmap
use Rattle.records.specs.Records.{RecordMap, zeros, zeros_at}

pub zeros_none : (m : RecordMap) (from : ℕ) → m ≡ zeros_at m from (from - from)
unfolding zeros_at
zeros_none m from = let none : from - from ≡ 0 = omega arith in rw none refl

pub zeros_more : (m : RecordMap) (from place : ℕ) → from ≤ place → finmap.insert (zeros_at m from (place - from)) place zeros ≡ zeros_at m from (place + 1 - from)
unfolding zeros_at
zeros_more m from place above =
    let count : place + 1 - from ≡ suc (place - from) = omega arith in
    let there : from + (place - from) ≡ place = omega arith in
    ap (λ p. finmap.insert (zeros_at m from (place - from)) p zeros) (sym there) ∙ ap (zeros_at m from) (sym count)
