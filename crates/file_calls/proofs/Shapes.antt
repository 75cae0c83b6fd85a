-- The length of a shape is the length of its file.
use Rattle.std.proofs.Common.{◌≡◌, ℕ, length, ◌∙◌, is_some, Result, Ok, Err, IfOk, OnOk, OnErr, sym, refl}
use Rattle.std.proofs.lemmas.List.{length-map}
use Rattle.std.proofs.lemmas.List.FromFn.{length-range_with_len}
use Rattle.std.specs.List.{range_with_len}
use Rattle.std.specs.declared.alloc.AllocError.{AllocError}
use Rattle.interaction_trees.specs.Tree.{Query, Return}
use Rattle.hostfiles.specs.Entries.{count_at}
use Rattle.hostfiles.specs.Hosts.{Key, Host}
use Rattle.hostfiles.specs.Files.{OwnFiles, length_at, record_or_hole, file_of, entry_at}
use Rattle.hostfiles.specs.File.{shape_of}
use Rattle.hostfiles.specs.FileLooks.{look_length, KeepsAsks}
use Rattle.file_calls.specs.FileQuestions.{ShapeOf}
use Rattle.file_calls.specs.TableView.{TableView, shape_of_key}
use Rattle.file_calls.specs.Asks.{Asks}

pub places : (host : Host) (own : OwnFiles) (key : Key) → length_at host own key ≡ length (shape_of_key host own key)
unfolding shape_of_key
places host own key = sym (
    length-map (file_of host key (entry_at own key)) is_some
    ∙ length-map (range_with_len 0 (length_at host own key)) (record_or_hole host key (entry_at own key))
    ∙ length-range_with_len 0 (length_at host own key))

pub counted : (host : Host) (own : OwnFiles) (key : Key) (extent : ℕ) → count_at (shape_of (file_of host key (entry_at own key))) extent ≡ count_at (shape_of_key host own key) extent
unfolding shape_of_key
counted host own key extent = refl
