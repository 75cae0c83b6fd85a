use Rattle.std.proofs.Common.{rules, ap, ◌∙◌, ◌≡◌, subst, length, arith}
use Rattle.pagemem.specs.declared.overlay.Overlay.{Overlay}
use Rattle.pagemem.specs.Overlay.{beneath_of}
use Rattle.pagemem.specs.ImageView.{cells_of}
use Rattle.machine.specs.Session.{image_of}
use Rattle.machine.proofs.StepLemmas.{at_limit}
use Rattle.machine.proofs.system_area.serve_learning.Goals as goal

pub returns-clause-served : goal.returns-clause-served
returns-clause-served c g =
    at_limit c.args.desk.now c.call.new.desk c.script.ensures.value c.script.ensures.within c.call.ensures.makes
    (record { own = search rules; beneath = ap cells_of c.new-view.ensures.image ∙ c.image.ensures; looks = search rules }) (record { own = search rules; beneath = search rules; looks = search rules }) (search rules)
    (record { host = search rules; own = search rules; looks = search rules }) (record { host = search rules; own = search rules; looks = search rules }) (search rules)

pub returns-clause-beneath : goal.returns-clause-beneath
returns-clause-beneath c =
    let made = c.call.ensures.makes (length c.script.result.now) (omega arith) in
    subst (λ (o : Overlay). beneath_of o ≡ image_of c.args.session.now) {x = c.call.new.bus.overlay.now} {y = c.overlay-1.given.0} (search rules)
    (c.call.new.bus.same_image ∙ made.call.beneath ∙ ap cells_of c.new-view.ensures.image ∙ c.image.ensures)
