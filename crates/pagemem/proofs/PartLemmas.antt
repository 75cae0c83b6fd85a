-- Lists of which a part was written.
use Rattle.std.proofs.Common.{◌≡◌, ◌+◌, ◌-◌, ◌<◌, ◌≤◌, ◌%◌, ℕ, List, ◌++◌, length, get_or, take, drop, ap, ◌∙◌, arith, min}
use Rattle.std.proofs.lemmas.List.{length-take, length-drop, length-append, get_or-take, get_or-drop, get_or_append_left, get_or-append_right}
use Rattle.i8080.specs.Registers.{onward}
use borrow.Rule.Slice.PartMut.{put_mid, post_of}

-- The length of a part.
pub part_length : {X : Type 0} (a k : ℕ) (xs : List X) → a + k ≤ length xs → length (take k (drop a xs)) ≡ k
part_length a k xs fits = length-take k (drop a xs) ∙ ap (min k) (length-drop a xs) ∙ (let e : min k (length xs - a) ≡ k = omega (arith, fits) in e)

module _ {X : Type 0} (a k : ℕ) (xs ys : List X) (fits : a + k ≤ length xs) (long : length ys ≡ k) where
  before : length (take a xs) ≡ a
  before = length-take a xs ∙ (let e : min a (length xs) ≡ a = omega (arith, fits) in e)

  after : length (post_of a k xs) ≡ length xs - a - k
  after = length-drop k (drop a xs) ∙ ap (λ n. n - k) (length-drop a xs)

  pub length_put : length (put_mid a k xs ys) ≡ length xs
  length_put =
      length-append (take a xs) (ys ++ post_of a k xs) ∙ ap (λ n. n + length (ys ++ post_of a k xs)) before ∙ ap (λ n. a + n) (length-append ys (post_of a k xs) ∙ ap (λ n. length ys + n) after)
      ∙ (let e : a + (length ys + (length xs - a - k)) ≡ length xs = omega (arith, fits, long) in e)

  pub put_below : (j : ℕ) (d : X) → j < a → get_or (put_mid a k xs ys) j d ≡ get_or xs j d
  put_below j d h = get_or_append_left (take a xs) (ys ++ post_of a k xs) d j (omega (arith, before, h)) ∙ get_or-take a xs j d h

  pub put_inside : (j : ℕ) (d : X) → a ≤ j → j < a + k → get_or (put_mid a k xs ys) j d ≡ get_or ys (j - a) d
  put_inside j d low high = get_or-append_right (take a xs) (ys ++ post_of a k xs) a j d before low ∙ get_or_append_left ys (post_of a k xs) d (j - a) (omega (arith, long, low, high))

  pub put_above : (j : ℕ) (d : X) → a + k ≤ j → get_or (put_mid a k xs ys) j d ≡ get_or xs j d
  put_above j d low =
      get_or-append_right (take a xs) (ys ++ post_of a k xs) a j d before (omega (arith, low)) ∙ get_or-append_right ys (post_of a k xs) k (j - a) d long (omega (arith, low))
      ∙ get_or-drop k (drop a xs) (j - a - k) d ∙ get_or-drop a xs (k + (j - a - k)) d ∙ ap (λ n. get_or xs n d) (let e : a + (k + (j - a - k)) ≡ j = omega (arith, low) in e)

-- A cell of the page in which another one lies.
pub in_page : (a count i : ℕ) → a < 65536 → count ≤ 256 - a % 256 → i < count → a + i ≡ onward a i
in_page a count i low fits below = omega (arith, low, fits, below)
