-- Cells that are read and written one after another.
use Rattle.std.proofs.Common.{◌≡◌, ℕ, suc, ◌+◌, ◌-◌, ◌<◌, ◌≤◌, List, [], ◌∷◌, ◌++◌, length, take, slice_set, replicate, refl, sym, ap, subst, ◌∙◌, arith, slice_index}
use Rattle.std.proofs.lemmas.List.{take_more_set, take_all, append_assoc, append-nil}
use Rattle.i8080.specs.Memory.{Memory, Own, Looks, look, look_all, write, write_all, bytes, over}
use Rattle.i8080.specs.Reading.{end_of, asked}
use Rattle.i8080.specs.Registers.{onward}
use Rattle.i8080.specs.Performs.{Reads}
use Rattle.console_calls.proofs.Scanning.{end_of-ending, asked-ending, one_less, none_left}
use Rattle.filenames.specs.declared.drive.Drive.{Drive}
use Rattle.bdos.specs.FileCalls.{bytes_at, block_reading}
use Rattle.file_calls.specs.declared.block.Block.{Block}

end_more : (byte : ℕ → ℕ) (n a : ℕ) → end_of (bytes_at (suc n) a) byte ≡ byte a ∷ end_of (bytes_at n (onward a 1)) byte
unfolding bytes_at
end_more byte n a = end_of-ending (λ rest. byte a ∷ rest) (bytes_at n (onward a 1)) byte

asked_more : (byte : ℕ → ℕ) (n a : ℕ) → asked (bytes_at (suc n) a) byte ≡ a ∷ asked (bytes_at n (onward a 1)) byte
unfolding bytes_at
asked_more byte n a = ap (λ (at : List ℕ). a ∷ at) (asked-ending (λ rest. byte a ∷ rest) (bytes_at n (onward a 1)) byte)

end_none : (byte : ℕ → ℕ) (a : ℕ) → end_of (bytes_at 0 a) byte ≡ []
unfolding bytes_at
end_none byte a = refl

asked_none : (byte : ℕ → ℕ) (a : ℕ) → asked (bytes_at 0 a) byte ≡ []
unfolding bytes_at
asked_none byte a = refl

-- One more cell was read.
pub taken_on : (byte : ℕ → ℕ) (n i a v : ℕ) (cells : List ℕ) → i < n → i < length cells → v ≡ byte a
    → take (i + 1) (slice_set cells i v) ++ end_of (bytes_at (n - (i + 1)) (onward a 1)) byte ≡ take i cells ++ end_of (bytes_at (n - i) a) byte
taken_on byte n i a v cells h k e =
    ap (λ xs. xs ++ end_of (bytes_at (n - (i + 1)) (onward a 1)) byte) (take_more_set cells i v k)
    ∙ append_assoc (take i cells) (v ∷ []) (end_of (bytes_at (n - (i + 1)) (onward a 1)) byte)
    ∙ ap (λ x. take i cells ++ x ∷ end_of (bytes_at (n - (i + 1)) (onward a 1)) byte) e
    ∙ ap (λ xs. take i cells ++ xs) (sym (end_more byte (n - (i + 1)) a) ∙ ap (λ k. end_of (bytes_at k a) byte) (sym (one_less n i h)))

pub looked_on : (byte : ℕ → ℕ) (own : Own) (looks looks' : Looks) (n i a : ℕ) → i < n → looks' ≡ look own looks a
    → look_all own (asked (bytes_at (n - (i + 1)) (onward a 1)) byte) looks' ≡ look_all own (asked (bytes_at (n - i) a) byte) looks
looked_on byte own looks looks' n i a h e =
    ap (look_all own (asked (bytes_at (n - (i + 1)) (onward a 1)) byte)) e
    ∙ ap (λ (at : List ℕ). look_all own at looks) (sym (asked_more byte (n - (i + 1)) a) ∙ ap (λ k. asked (bytes_at k a) byte) (sym (one_less n i h)))

-- All cells were read.
pub taken_all : (byte : ℕ → ℕ) (n i a : ℕ) (cells : List ℕ) → n ≤ i → length cells ≤ i → cells ≡ take i cells ++ end_of (bytes_at (n - i) a) byte
taken_all byte n i a cells h k =
    sym (ap (λ j. take i cells ++ end_of (bytes_at j a) byte) (none_left n i h) ∙ ap (λ xs. take i cells ++ xs) (end_none byte a) ∙ append-nil (take i cells) ∙ take_all i cells k)

pub looked_all : (byte : ℕ → ℕ) (own : Own) (looks : Looks) (n i a : ℕ) → n ≤ i → looks ≡ look_all own (asked (bytes_at (n - i) a) byte) looks
looked_all byte own looks n i a h = sym (ap (λ j. look_all own (asked (bytes_at j a) byte) looks) (none_left n i h) ∙ ap (λ (at : List ℕ). look_all own at looks) (asked_none byte a))

-- Some cells are written, and then others.
pub write_all-append : (own : Own) (xs ys : List (ℕ × ℕ)) → write_all own (xs ++ ys) ≡ write_all (write_all own xs) ys
write_all-append own [] ys = refl
write_all-append own (x ∷ xs) ys = write_all-append (write own x.0 x.1) xs ys

pub written_both : (own mid new : Own) (xs ys : List (ℕ × ℕ)) → mid ≡ write_all own xs → new ≡ write_all mid ys → new ≡ write_all own (xs ++ ys)
written_both own mid new xs ys a b = b ∙ ap (λ (o : Own). write_all o ys) a ∙ sym (write_all-append own xs ys)

-- The same cells at an equal address.
pub read_at : (n a b : ℕ) {m m1 : Memory} {cells : List ℕ} → a ≡ b → Reads (bytes_at n a) m cells m1 → Reads (bytes_at n b) m cells m1
read_at n a b {m = m} {m1 = m1} {cells = cells} e h = subst (λ (x : ℕ). Reads (bytes_at n x) m cells m1) e h

-- A control block whose first byte was already read.
pub block_of : (length : ℕ) (drive : Drive) (dr at a : ℕ) {m m1 : Memory} {cells fcb : List ℕ} → a ≡ onward at 1 → Reads (bytes_at (length - 1) a) m cells m1 → fcb ≡ dr ∷ cells ++ replicate (36 - length) 0
    → Reads (block_reading drive dr length at) m (record { drive = drive; fcb = fcb }) m1
unfolding block_reading
block_of length drive dr at a {m = m} {m1 = m1} {cells = cells} e h f =
    let w : Reads (bytes_at (length - 1) (onward at 1)) m cells m1 = read_at (length - 1) a (onward at 1) e h in
    let block : List ℕ → Block = λ rest. record { drive = drive; fcb = dr ∷ rest ++ replicate (36 - length) 0 } in
    record {
      value = ap (λ (x : List ℕ). record { drive = drive; fcb = x }) f ∙ ap block w.value ∙ sym (end_of-ending block (bytes_at (length - 1) (onward at 1)) (bytes m));
      looks = w.looks ∙ ap (λ (at : List ℕ). look_all m.own at m.looks) (sym (asked-ending block (bytes_at (length - 1) (onward at 1)) (bytes m)));
      own = w.own;
      beneath = w.beneath;
      lender = w.lender;
    }

-- ---- known cells

-- A cell has this byte, and a read of it is not a look.
record IsKnown (own : Own) (beneath : ℕ → ℕ) (looks : Looks) (a v : ℕ) : Type 0 where
  value : v ≡ over own beneath a
  unlooked : look own looks a ≡ looks

-- The cells from an address on have these bytes, and a read of them is not a look.
abbrev AreKnown : Own → (ℕ → ℕ) → Looks → ℕ → List ℕ → Type 0
AreKnown own beneath looks a values = (i : ℕ) → i < length values → IsKnown own beneath looks (onward a i) (slice_index values i)

-- The cells after the first.
further : (own : Own) (beneath : ℕ → ℕ) (looks : Looks) (a v : ℕ) (rest : List ℕ) → AreKnown own beneath looks a (v ∷ rest) → AreKnown own beneath looks (onward a 1) rest
further own beneath looks a v rest w i h = subst (λ (x : ℕ). IsKnown own beneath looks x (slice_index rest i)) (let e : onward a (suc i) ≡ onward (onward a 1) i = omega arith in e) (w (suc i) (omega (arith, h)))

first_of : (own : Own) (beneath : ℕ → ℕ) (looks : Looks) (a v : ℕ) (rest : List ℕ) → a < 65536 → AreKnown own beneath looks a (v ∷ rest) → IsKnown own beneath looks a v
first_of own beneath looks a v rest low w = subst (λ (x : ℕ). IsKnown own beneath looks x v) (let e : onward a 0 ≡ a = omega (arith, low) in e) (w 0 (omega arith))

taken_known : (own : Own) (beneath : ℕ → ℕ) (looks : Looks) (a : ℕ) (values : List ℕ) → a < 65536 → AreKnown own beneath looks a values → values ≡ end_of (bytes_at (length values) a) (over own beneath)
taken_known own beneath looks a [] low w = sym (end_none (over own beneath) a)
taken_known own beneath looks a (v ∷ rest) low w =
    ap (λ (xs : List ℕ). v ∷ xs) (taken_known own beneath looks (onward a 1) rest (omega arith) (further own beneath looks a v rest w))
    ∙ ap (λ (x : ℕ). x ∷ end_of (bytes_at (length rest) (onward a 1)) (over own beneath)) (first_of own beneath looks a v rest low w).value
    ∙ sym (end_more (over own beneath) (length rest) a)

looks_known : (own : Own) (beneath : ℕ → ℕ) (looks : Looks) (a : ℕ) (values : List ℕ) → a < 65536 → AreKnown own beneath looks a values → looks ≡ look_all own (asked (bytes_at (length values) a) (over own beneath)) looks
looks_known own beneath looks a [] low w = sym (ap (λ (at : List ℕ). look_all own at looks) (asked_none (over own beneath) a))
looks_known own beneath looks a (v ∷ rest) low w =
    looks_known own beneath looks (onward a 1) rest (omega arith) (further own beneath looks a v rest w)
    ∙ ap (look_all own (asked (bytes_at (length rest) (onward a 1)) (over own beneath))) (sym (first_of own beneath looks a v rest low w).unlooked)
    ∙ sym (ap (λ (at : List ℕ). look_all own at looks) (asked_more (over own beneath) (length rest) a))

-- Known cells are read at once, and nothing is looked at.
pub reads_known : (m : Memory) (a n : ℕ) (values : List ℕ) → a < 65536 → length values ≡ n → ((i : ℕ) → i < n → slice_index values i ≡ bytes m (onward a i)) → ((i : ℕ) → i < n → look m.own m.looks (onward a i) ≡ m.looks)
    → Reads (bytes_at n a) m values m
reads_known m a n values low count value unlooked =
    subst (λ (k : ℕ). Reads (bytes_at k a) m values m) count (record {
      value = taken_known m.own m.beneath m.looks a values low here;
      looks = looks_known m.own m.beneath m.looks a values low here;
      own = refl;
      beneath = refl;
      lender = refl;
    })
  where
    here : AreKnown m.own m.beneath m.looks a values
    here i h = record { value = value i (omega (arith, h, count)); unlooked = unlooked i (omega (arith, h, count)) }
