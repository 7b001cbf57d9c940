use Rattle.std.proofs.Common.{refl, sym, ap, ◌∙◌}
use Rattle.area.specs.Reach.{Reach}
use Rattle.area.proofs.lemmas.WordSets.{listed}
use Rattle.area.proofs.scratch.Scratch.has_box.Goals as goal

pub returns : goal.returns
returns c =
    c.has.ensures ∙ sym (listed c.self.inside.boxes c.self.inside.boxes c.args.self.now.boxes c.args.square (ap (λ (r : Reach). r.boxes) c.self.view_is) refl)
