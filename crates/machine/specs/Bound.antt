-- The image that the known cells of a state belong to. (This project's own.)
use Rattle.std.specs.Prelude.{◌≡◌}
use Rattle.pagemem.specs.ImageParts.{image_with}
use Rattle.machine.specs.Inputs.{Session}
use Rattle.machine.specs.StateView.{StateView}
use Rattle.machine.specs.Session.{image_of}

-- It is the image of this session.
abbrev pub IsBound : Session → StateView → Type 0
IsBound s view = image_with view.beneath ≡ image_of s
