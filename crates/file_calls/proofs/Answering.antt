-- The answers of the host files determine the answers of the current files.
use Rattle.std.proofs.Common.{◌≡◌}
use Rattle.interaction_trees.specs.Tree.{result_of}
use Rattle.hostfiles.specs.Hosts.{Host}
use Rattle.hostfiles.specs.Files.{OwnFiles, entry_at}
use Rattle.file_calls.specs.FileQuestions.{FileQuestion, IsThere, ShapeOf, Content, FilesOn}
use Rattle.file_calls.specs.TableView.{file_answers, shape_of_key}
use Rattle.file_calls.specs.HostTrees.{AreSoundOwnFiles, host_tree, host_answers}
use Rattle.file_calls.proofs.Parts.{there_is, shape_here_is, content_is}
use Rattle.file_calls.proofs.Names.{same_files}

pub answers_are : (host : Host) (own : OwnFiles) → AreSoundOwnFiles host own → (q : FileQuestion) → result_of (host_answers host) (host_tree own q) ≡ file_answers host own q
unfolding shape_of_key
answers_are host own sound (IsThere key) = there_is host key (entry_at own key).base
answers_are host own sound (ShapeOf key) = shape_here_is host key (entry_at own key) (sound.at key).grown
answers_are host own sound (Content key k) = content_is host key k (entry_at own key)
answers_are host own sound (FilesOn drive) = same_files host drive own sound
