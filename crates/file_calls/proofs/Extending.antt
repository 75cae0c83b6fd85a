-- No look is lost, and a call that fails has only looks of the whole tree.
use Rattle.std.proofs.Common.{◌≡◌, ◌==◌, true, List, [], ◌∷◌, length, nat_lt, slice_index, refl}
use Rattle.interaction_trees.specs.Tree.{questions_of}
use Rattle.hostfiles.specs.ControlBlock.{place_of, random_place_of}
use Rattle.hostfiles.specs.Hosts.{Host}
use Rattle.hostfiles.specs.Files.{OwnFiles, has}
use Rattle.hostfiles.specs.FileLooks.{HasNewAsk, KeepsAsks, look_has, look_length, look_content}
use Rattle.hostfiles.specs.declared.looks.FileLooks.{FileLooks}
use Rattle.cpmfiles.proofs.LookLaws.{within_has, within_length, within_content, within_directory}
use Rattle.file_calls.specs.FileQuestions.{FileQuestion, IsThere, ShapeOf, Content, FilesOn}
use Rattle.file_calls.specs.TableView.{file_answers, look_for, look_for_all, shape_of_key}
use Rattle.file_calls.specs.Findings.{key_of, read_random, read_sequential}
use Rattle.file_calls.specs.declared.block.Block.{Block}
pub use Rattle.hostfiles.proofs.LookLemmas.{extends_same, extends_trans, extends_by_directory, new_before, new_within}

within_one : (own : OwnFiles) (q : FileQuestion) (l m : FileLooks) → KeepsAsks l m → KeepsAsks l (look_for own q m)
within_one own (IsThere key) l m h = within_has own key l m h
within_one own (ShapeOf key) l m h = within_length own key l m h
within_one own (Content key k) l m h = within_content own key k l m h
within_one own (FilesOn drive) l m h = within_directory drive l m h

-- The looks so far are among the looks after all questions that follow.
pub within_all : (own : OwnFiles) (qs : List FileQuestion) (l m : FileLooks) → KeepsAsks l m → KeepsAsks l (look_for_all own qs m)
within_all own [] l m h = h
within_all own (q ∷ qs) l m h = within_all own qs l (look_for own q m) (within_one own q l m h)

-- A new question of the looks so far is a new one of the looks after all questions that follow.
pub new_all : (own : OwnFiles) (qs : List FileQuestion) (l m : FileLooks) → HasNewAsk l m → HasNewAsk l (look_for_all own qs m)
new_all own qs l m h = new_within l m _ h (within_all own qs m m (extends_same m m refl))

-- The rules for questions one after another.
pub ruleset asked_in_turn = (extends_same, extends_trans, within_all, new_all, new_before)

-- ---- a read asks whether its file is there, for its shape and for a record

module _ (host : Host) (own : OwnFiles) (b : Block) (l : FileLooks) (there : has host own (key_of b) ≡ true) where
  pub sequential_asks : nat_lt (place_of b.fcb) (length (shape_of_key host own (key_of b))) ≡ true
      → look_for_all own (questions_of (file_answers host own) (read_sequential b)) l ≡ look_content own (key_of b) (place_of b.fcb) (look_length own (key_of b) (look_has own (key_of b) l))
  sequential_asks below = rw (there, below) refl

  pub random_asks : (slice_index b.fcb 35 == 0) ≡ true → nat_lt (random_place_of b.fcb) (length (shape_of_key host own (key_of b))) ≡ true
      → look_for_all own (questions_of (file_answers host own) (read_random b)) l ≡ look_content own (key_of b) (random_place_of b.fcb) (look_length own (key_of b) (look_has own (key_of b) l))
  random_asks short below = rw (there, short, below) refl
