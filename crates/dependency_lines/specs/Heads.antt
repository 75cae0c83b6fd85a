-- The beginning of a line of a listing, and a line with one step. (This project's profile.)
use Rattle.std.specs.Prelude.{ℕ, if◌then◌else◌, List, [], ◌++◌, Option, Some, None}
use Rattle.filenames.specs.Names.{Key, display_text, is_sayable}
use Rattle.report_lines.specs.KeyDigits.{key_digits}
use Rattle.dependency_lines.specs.Words.{step_end}
use Rattle.dependency_lines.specs.declared.heads.Head.{Head}

-- A name as reports print it, or `=` and the bytes of the key in lower-case hexadecimal digits if no file can have it.
abbrev pub name_text : Key → List ℕ
name_text key = if is_sayable key then display_text key else key_digits key

-- A word, and the name that it is about.
abbrev pub about_text : List ℕ → Option Key → List ℕ
about_text word None = word
about_text word (Some key) = word ++ name_text key

abbrev pub head_text : Head → List ℕ
head_text head = about_text head.word.now head.key

-- A line that ends with the first step; nothing without a step.
abbrev pub step_line : List ℕ → Option ℕ → List ℕ
step_line head None = []
step_line head (Some step) = head ++ step_end step
