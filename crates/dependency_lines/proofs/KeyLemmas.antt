-- The keys about which something was asked, in order.
use Rattle.std.proofs.Common.{◌≡◌, List, [], ◌∷◌, Option, Some, None, is_some, false, refl, sym, ap, ◌∙◌}
use Rattle.std.specs.Ordering.{nat_cmp}
use Rattle.std.specs.Cmp.Lexicographic.{slice_cmp, nat_list_cmp_total}
use Rattle.std.specs.FinMap.{FinMap, get, contains_key}
use Rattle.keymaps.specs.Order.{IsLeastAbove}
use Rattle.keymaps.proofs.Views.{get_view}
use Rattle.filenames.specs.Names.{Key}
use Rattle.hostfiles.proofs.ChangedWalk.{keys_above, keys_above_none, keys_above_least, keys_above_end}
use Rattle.first_looks.specs.RecordSteps.{steps_of}
use Rattle.first_looks.specs.declared.file_steps.FileSteps.{FileSteps}
use Rattle.dependency_lines.specs.Names.{asked_keys, is_asked, record_steps}
use Rattle.dependency_lines.specs.declared.names.Kind.{Kind}
use Rattle.dependency_lines.specs.declared.names.Kind.TheVariants.{There, Absent, Length, Records}

-- The keys above a bound.
abbrev pub asked_above : FileSteps → Kind → Option Key → List Key
asked_above asked There after = keys_above asked.has after
asked_above asked Absent after = keys_above asked.has after
asked_above asked Length after = keys_above asked.lengths after
asked_above asked Records after = keys_above (record_steps asked.records) after

pub asked_above_none : (asked : FileSteps) (kind : Kind) → asked_above asked kind None ≡ asked_keys asked kind
asked_above_none asked There = keys_above_none asked.has
asked_above_none asked Absent = keys_above_none asked.has
asked_above_none asked Length = keys_above_none asked.lengths
asked_above_none asked Records = keys_above_none (record_steps asked.records)

absent : {X : Type 0} (o : Option X) → is_some o ≡ false → o ≡ None
absent None h = refl
absent (Some x) h = cc

module _ {X : Type 0} (m : FinMap (slice_cmp nat_cmp) X) (after : Option Key) where
  least : (k : Key) → IsLeastAbove after (contains_key m) (Some k) → keys_above m after ≡ k ∷ keys_above m (Some k)
  least k l = keys_above_least m after k l.1 (l.0, λ x a b. absent (get m x) (l.2 x a b))

  none : IsLeastAbove after (contains_key m) None → keys_above m after ≡ []
  none n = keys_above_end m after (λ x a. absent (get m x) (n x a))

has_records : (asked : FileSteps) (key : Key) → is_some (steps_of asked.records.files key) ≡ contains_key (record_steps asked.records) key
has_records asked key = ap is_some (sym (get_view nat_list_cmp_total asked.records.files key))

-- They begin at the least one.
pub asked_next : (asked : FileSteps) (kind : Kind) (after : Option Key) (k : Key) → IsLeastAbove after (is_asked asked kind) (Some k)
    → asked_above asked kind after ≡ k ∷ asked_above asked kind (Some k)
asked_next asked There after k l = least asked.has after k l
asked_next asked Absent after k l = least asked.has after k l
asked_next asked Length after k l = least asked.lengths after k l
asked_next asked Records after k l =
    least (record_steps asked.records) after k (l.0, sym (has_records asked k) ∙ l.1, λ x a b. sym (has_records asked x) ∙ l.2 x a b)

pub asked_end : (asked : FileSteps) (kind : Kind) (after : Option Key) → IsLeastAbove after (is_asked asked kind) None → asked_above asked kind after ≡ []
asked_end asked There after n = none asked.has after n
asked_end asked Absent after n = none asked.has after n
asked_end asked Length after n = none asked.lengths after n
asked_end asked Records after n = none (record_steps asked.records) after (λ x a. sym (has_records asked x) ∙ n x a)
