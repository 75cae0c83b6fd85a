use Rattle.std.proofs.Common.{◌≡◌, Some, string_bytes, true, slice_index, rules}
use Rattle.filenames.specs.Drives.{drive_number}
use Rattle.filenames.specs.Names.{is_sayable}
use Rattle.folders.specs.FolderNames.{key_in}
use Rattle.folders.proofs.ListingLemmas.{put_named, put_or_not, still_there}
use Rattle.folders.proofs.listing.Listing.add.Goals as goal

pub invariant_of-self-2 : goal.invariant_of-self-2
invariant_of-self-2 c =
    let own = c.args.self.now in
    let key = c.key-key.result in
    record {
      names = put_or_not (λ k. is_sayable k ≡ true) _ _ key _ c.insert.result c.insert.ensures.ok c.insert.ensures.err c.key-key.ensures.sayable own.names;
      on_drive = put_or_not (λ k. slice_index k 0 ≡ drive_number own.drive) _ _ key _ c.insert.result c.insert.ensures.ok c.insert.ensures.err (search rules) own.on_drive;
      named = put_named string_bytes (λ k f. key_in (slice_index k 0) f ≡ Some k) _ _ key c.args.file c.insert.result c.insert.ensures.ok c.insert.ensures.err (search rules) own.named;
      duplicate_there = λ k h. still_there _ _ key _ c.insert.result c.insert.ensures.ok c.insert.ensures.err k (own.duplicate_there k h);
    }
