use Rattle.std.proofs.Common.{rules, ap, ◌∙◌}
use Rattle.pagemem.specs.ImageView.{cells_of}
use Rattle.machine.proofs.StepLemmas.{at_limit}
use Rattle.machine.proofs.system_area.serve.Goals as goal

pub returns : goal.returns
returns c g =
    at_limit c.args.desk.now c.call.new.desk c.script.ensures.value c.script.ensures.within c.call.ensures.makes
    (record { own = search rules; beneath = ap cells_of c.new-view.ensures.image ∙ c.image.ensures; looks = search rules }) (record { own = search rules; beneath = search rules; looks = search rules }) (search rules)
    (record { host = search rules; own = search rules; looks = search rules }) (record { host = search rules; own = search rules; looks = search rules }) (search rules)
