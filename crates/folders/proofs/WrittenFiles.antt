-- A file that is written piece by piece.
use Rattle.std.proofs.Common.{◌≡◌, ℕ, Bool, true, false, cond, List, [], Option, Some, None, IfSome, is_some, ap, subst, ◌∙◌, refl}
use Rattle.std.specs.Cmp.Lexicographic.{nat_list_cmp_total}
use Rattle.std.specs.FinMap.{contains_key, insert}
use Rattle.std.specs.Io.KnownBytes.{Appends}
use Rattle.keymaps.proofs.Views.{same_key, get_here, insert_twice}
use Rattle.streams.specs.Streams.{Output}
use Rattle.folders.specs.FileSystem.{Becomes, FileBytes, HasBytes, HasWritten, IsKindAt, IsNewOutput, Path, StoredFiles, kind_at, with_bytes}
use Rattle.folders.specs.declared.file_system.Kind.{Kind}
use Rattle.folders.specs.declared.file_system.Kind.TheVariants.{Absent, Regular, Other}

-- Bytes were written to what was found at a path.
pub has_bytes : (path : Path) (bytes : List ℕ) (kind : Kind) (old new : StoredFiles) → IsKindAt old path kind → Becomes old.bytes new.bytes (with_bytes path bytes kind)
    → HasBytes path bytes old new
has_bytes path bytes kind old new is becomes = by old.bytes is becomes where
  by : (o : Option FileBytes) → IfSome o (λ stored. kind ≡ kind_at old stored path) → Becomes o new.bytes (with_bytes path bytes kind)
      → Becomes o new.bytes (λ stored. with_bytes path bytes (kind_at old stored path) stored)
  by None is becomes = tt
  by (Some files) is becomes = becomes ∙ ap (λ k. Some (with_bytes path bytes k files)) is

-- What an empty output holds after a text is appended.
holds_text : (held : Option (List ℕ)) (new : Option (List ℕ)) (text : List ℕ) → held ≡ Some [] → Appends held new text → new ≡ Some text
holds_text held None text empty appends = absurd (subst (λ h. Appends h None text) empty appends)
holds_text held (Some now) text empty appends = ap Some (subst (λ h. Appends h (Some now) text) empty appends)

abbrev kind : Bool → Bool → Kind
kind there special = cond there Regular (cond special Other Absent)

made_then : (path : Path) (text : List ℕ) (files : FileBytes) (special : Bool)
    → with_bytes path text (kind (contains_key (insert files path []) path) special) (insert files path []) ≡ insert files path text
made_then path text files special =
    ap (λ there. with_bytes path text (kind there special) (insert files path [])) (ap is_some (get_here nat_list_cmp_total same_key files path []))
    ∙ insert_twice nat_list_cmp_total same_key files path [] text

-- A text is written to what is made or emptied before.
emptied_then : (path : Path) (text : List ℕ) (files : FileBytes) (there special : Bool) → contains_key files path ≡ there
    → with_bytes path text (kind (contains_key (with_bytes path [] (kind there special) files) path) special) (with_bytes path [] (kind there special) files)
    ≡ with_bytes path text (kind there special) files
emptied_then path text files true special is = made_then path text files special
emptied_then path text files false false is = made_then path text files false
emptied_then path text files false true is = ap (λ there. with_bytes path text (kind there true) files) is

-- If a file is opened to be written, and a text is written to it, then the file has that text once it is closed.
pub written : (path : Path) (before made after : StoredFiles) (old new : Output) (text : List ℕ) → IsNewOutput before.bytes old → HasBytes path [] before made
    → made.special ≡ before.special → Appends old.holds new.holds text → HasWritten path new.holds made after → HasBytes path text before after
written path before made after old new text opened emptied same appends closed = by before.bytes opened emptied where
  by : (o : Option FileBytes) → IsNewOutput o old → Becomes o made.bytes (λ stored. with_bytes path [] (kind_at before stored path) stored)
      → Becomes o after.bytes (λ stored. with_bytes path text (kind_at before stored path) stored)
  by None opened emptied = tt
  by (Some files) opened emptied =
      let middle = with_bytes path [] (kind_at before files path) files in
      let whole : HasBytes path text made after = subst (λ h. HasWritten path h made after) (holds_text old.holds new.holds text opened.0 appends) closed in
      let then : after.bytes ≡ Some (with_bytes path text (kind_at made middle path) middle) =
      subst (λ b. Becomes b after.bytes (λ stored. with_bytes path text (kind_at made stored path) stored)) emptied whole in
      then ∙ ap (λ (s : Path → Bool). Some (with_bytes path text (kind (contains_key middle path) (s path)) middle)) same
      ∙ ap Some (emptied_then path text files (contains_key files path) (before.special path) refl)
