-- What contracts see of views. (This project's own.)
use Rattle.std.specs.Prelude.{Some}
use Rattle.std.specs.Borrow.{MutBor}
use Rattle.i8080.specs.Memory.{Memory}
use Rattle.pagemem.specs.Overlay.{memory_over}
use Rattle.pagemem.specs.declared.image.Image.{Image}
use Rattle.pagemem.specs.declared.overlay.Overlay.{Overlay}
use Rattle.pagemem.specs.declared.view.LearningView.{LearningView}
use Rattle.pagemem.specs.declared.view.View.{View}

-- An image, and an overlay that is lent, as memory.
abbrev pub memory_lent : Image → MutBor Overlay → Memory
memory_lent image overlay = record (memory_over image overlay.now) { lender = Some overlay.ghost_name }

-- The image of a view.
abbrev pub image_in : View → Image
image_in v = v.image

-- The overlay that is lent to a view.
abbrev pub overlay_in : View → MutBor Overlay
overlay_in v = v.overlay

-- The image of a view that learns.
abbrev pub learning_image : LearningView → Image
learning_image v = v.image

-- The overlay that is lent to a view that learns.
abbrev pub learning_overlay : LearningView → MutBor Overlay
learning_overlay v = v.overlay
