use Rattle.std.proofs.Common.{rules, ◌∙◌, List, ℕ, ap}
use Rattle.command_tail.specs.Words.{first_word, drive_and_name}
use Rattle.command_tail.specs.PageZero.{page_with_tail, with_bytes_at}
use Rattle.command_tail.proofs.Pages.{page_made}
use Rattle.command_tail.proofs.page.page_with_tail.Goals as goal

pub returns : goal.returns
unfolding page_with_tail
returns c =
    page_made _ _ c.args.tail.now c.write.new.cells c.write-2.new.cells c.write-3.new.cells c.write-4.new.cells (search rules) c.write.ensures
    (c.write-2.ensures ∙ ap (λ (l : List ℕ). with_bytes_at c.write.new.cells 92 l) (c.drive_and_name.ensures ∙ ap drive_and_name c.split_word.ensures.word))
    (c.write-3.ensures ∙ ap (λ (l : List ℕ). with_bytes_at c.write-2.new.cells 108 l) (c.drive_and_name-2.ensures ∙ ap drive_and_name (c.split_word-2.ensures.word ∙ ap first_word c.split_word.ensures.rest)))
    (c.write-4.ensures ∙ ap (λ (l : List ℕ). with_bytes_at c.write-3.new.cells 128 l) c.tail_cells.ensures)
