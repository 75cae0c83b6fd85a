use Rattle.std.proofs.Common.{string_bytes, ap, ◌∙◌, sym}
use Rattle.std.specs.Option.{option_map}
use Rattle.std.specs.FinMap.{contains_key, get}
use Rattle.folders.proofs.ListingLemmas.{none_named, none_there}
use Rattle.folders.proofs.listing.Listing.new.Goals as goal

pub invariant_of-result : goal.invariant_of-result
invariant_of-result c = record {
  names = λ k h. absurd (none_there _ k (ap (λ m. contains_key m k) (sym c.new.ensures) ∙ h));
  on_drive = λ k h. absurd (none_there _ k (ap (λ m. contains_key m k) (sym c.new.ensures) ∙ h));
  named = λ k file h. none_named string_bytes k file (ap (λ m. option_map string_bytes (get m k)) (sym c.new.ensures) ∙ h);
  duplicate_there = λ k h. cc;
}
