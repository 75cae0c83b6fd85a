-- A walk over keys in order, to the first one that passes a test.
use Rattle.std.proofs.Common.{◌≡◌, Bool, true, false, Option, Some, None, refl, sym, ap, ◌∙◌}
use Rattle.std.specs.declared.cmp.Ordering.TheVariants.{Less, Equal, Greater}
use Rattle.std.specs.Ordering.{nat_cmp, is_lt, ordering_reverse}
use Rattle.std.specs.Cmp.Lexicographic.{slice_cmp, nat_list_cmp_total}
use Rattle.keymaps.specs.Order.{is_above, EachAbove, EachBetween, Skips, IsLeastAbove}
use Rattle.keymaps.proofs.Views.{same_key}
use Rattle.keymaps.proofs.Left.{rises}
use Rattle.hostfiles.specs.Hosts.{Key}

module _ (test : Key → Bool) where
  -- All keys above the bound `low` are above the bound `after`, and no key between the two passes the test.
  pub record Passed (after low : Option Key) : Type 0 where
    pub up : EachAbove low (λ x. is_above after x ≡ true)
    pub none : EachAbove after (λ x. is_above low x ≡ false → test x ≡ false)

  pub passed_none : (after : Option Key) → Passed after after
  passed_none after = record { up = λ x h. h; none = λ x h n. cc }

module _ (test : Key → Bool) (Lacks : Key → Type 0) (fails : (x : Key) → Lacks x → test x ≡ false) (after low : Option Key) (p : Passed test after low) where
  -- No key below the next key of the walk passes the test.
  below_least : (k : Key) → EachBetween low k Lacks → EachBetween after k (λ x. test x ≡ false)
  below_least k none x a l = elim (is_above low x) as (λ b. is_above low x ≡ b → test x ≡ false) [ true ↦ λ b. fails x (none x b l) | false ↦ λ b. p.none x a b ] refl

  -- If the next key passes the test, it is the least one that does.
  pub passed_least : (k : Key) → Skips low Lacks (Some k) → test k ≡ true → IsLeastAbove after test (Some k)
  passed_least k next here = (p.up k next.0, here, below_least k next.1)

  -- If it does not, the walk has passed it too.
  pub passed_more : (k : Key) → Skips low Lacks (Some k) → test k ≡ false → Passed test after (Some k)
  passed_more k next here = record {
    up = λ x h. p.up x (elim (slice_cmp nat_cmp k x) as (λ r. slice_cmp nat_cmp k x ≡ r → is_lt r ≡ true → is_above low x ≡ true) [
      | Less ↦ λ r y. rises low k x next.0 r
      | Equal ↦ λ r y. cc
      | Greater ↦ λ r y. cc
    ] refl h);
    none = λ x a n. elim (slice_cmp nat_cmp k x) as (λ r. slice_cmp nat_cmp k x ≡ r → is_lt r ≡ false → test x ≡ false) [
      | Less ↦ λ r y. cc
      | Equal ↦ λ r y. ap test (sym (same_key k x r)) ∙ here
      | Greater ↦ λ r y. below_least k next.1 x a (nat_list_cmp_total.antisymm x k ∙ ap ordering_reverse r)
    ] refl n;
  }

  -- At the end no key above the bound passes the test.
  pub passed_end : EachAbove low Lacks → IsLeastAbove after test None
  passed_end none x a = elim (is_above low x) as (λ b. is_above low x ≡ b → test x ≡ false) [ true ↦ λ b. fails x (none x b) | false ↦ λ b. p.none x a b ] refl
