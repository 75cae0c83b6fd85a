use Rattle.std.proofs.Common.{◌≡◌, ◌+◌, ◌-◌, ◌<◌, ◌≤◌, ◌∙◌, ℕ, zero, suc, Bool, true, false, cond, List, Some, None, length, get_or, replicate, refl, sym, ap, arith, inl, inr}
use Rattle.std.proofs.Math.Path.{fun_ext}
use Rattle.std.proofs.lemmas.Bool.{cases_lt}
use Rattle.std.proofs.lemmas.List.{length-replicate}
use Rattle.i8080.specs.Memory.{write_all}
use Rattle.i8080.specs.End.{cells_from}
use Rattle.pagemem.specs.Pages.{page_own}
use Rattle.pagemem.specs.declared.page.Page.{Page}
use Rattle.pagemem.proofs.PartLemmas.{part_length, put_below, put_inside, put_above}
use Rattle.pagemem.proofs.RunLaws.{outside, each_written}
use borrow.Rule.Slice.PartMut.{put_mid}
use Rattle.pagemem.proofs.page.Page.set_cells.Goals as goal

all_set : (n i : ℕ) → i < n → get_or (replicate n true) i false ≡ true
all_set zero i h = absurd (let no : i < 0 = h in omega (arith, no))
all_set (suc n) zero h = refl
all_set (suc n) (suc i) h = all_set n i (omega (arith, h))

-- The bytes and the marks of a part of a page.
module _ (page : Page) (from k : ℕ) (values : List ℕ) (marks : List Bool) (bytes_fit : from + k ≤ length page.bytes) (marks_fit : from + k ≤ length page.written) (low : from + k ≤ 65536)
    (long : length values ≡ k) (set : marks ≡ replicate k true) where
  long_marks : length marks ≡ k
  long_marks = ap length set ∙ length-replicate k true

  abbrev parted : Page
  parted = record { bytes = put_mid from k page.bytes values; written = put_mid from k page.written marks }

  is_outside : (q : ℕ) → write_all (page_own page) (cells_from from values) q ≡ page_own page q → get_or parted.written q false ≡ get_or page.written q false → get_or parted.bytes q 0 ≡ get_or page.bytes q 0 → page_own parted q ≡ write_all (page_own page) (cells_from from values) q
  unfolding page_own
  is_outside q e w b = rw (w, b) (sym e)

  at : (q : ℕ) → page_own parted q ≡ write_all (page_own page) (cells_from from values) q
  unfolding page_own
  at q = elim (cases_lt q from) [
    | inl below ↦ is_outside q (outside (page_own page) from values q (omega (arith, low, long)) (inl below)) (put_below from k page.written marks marks_fit long_marks q false below) (put_below from k page.bytes values bytes_fit long q 0 below)
    | inr above ↦ elim (cases_lt q (from + k)) [
      | inl within ↦ rw (put_inside from k page.written marks marks_fit long_marks q false above within, put_inside from k page.bytes values bytes_fit long q 0 above within)
          (ap (λ b. cond b (Some (get_or values (q - from) 0)) None) (ap (λ (m : List Bool). get_or m (q - from) false) set ∙ all_set k (q - from) (omega (arith, above, within)))
          ∙ sym (each_written (page_own page) from values (q - from) (omega (arith, low, long)) (omega (arith, above, within, long))) ∙ ap (write_all (page_own page) (cells_from from values)) (let e : from + (q - from) ≡ q = omega (arith, above) in e))
      | inr past ↦ is_outside q (outside (page_own page) from values q (omega (arith, low, long)) (inr (omega (arith, past, long)))) (put_above from k page.written marks marks_fit long_marks q false past) (put_above from k page.bytes values bytes_fit long q 0 past)
    ]
  ]

  set_run : page_own parted ≡ write_all (page_own page) (cells_from from values)
  set_run = fun_ext at

pub returns : goal.returns
returns c =
    let k : ℕ = c.from-start.result + length c.args.values.now - c.from-start.result in
    let same : k ≡ length c.args.values.now = omega arith in
    let start : c.from-start.result ≡ c.args.from = c.from-start.ensures in
    let long : length c.copy_from_slice.new.self ≡ k = ap length c.copy_from_slice.ensures.after ∙ sym same in
    let set : c.fill.new.self ≡ replicate k true = c.fill.ensures.after (λ y e. e) ∙ ap (λ n. replicate n true) (part_length c.from-start.result k c.args.self.now.written (omega (arith, start, same, c.requires))) in
    set_run c.args.self.now c.from-start.result k c.copy_from_slice.new.self c.fill.new.self (omega (arith, start, same, c.requires)) (omega (arith, start, same, c.requires)) (omega (arith, start, same, c.requires)) long set
    ∙ ap (λ n. write_all (page_own c.args.self.now) (cells_from n c.copy_from_slice.new.self)) start
    ∙ ap (λ (v : List ℕ). write_all (page_own c.args.self.now) (cells_from c.args.from v)) c.copy_from_slice.ensures.after
