use Rattle.std.proofs.Common.{refl, sym, ap, ◌∙◌}
use Rattle.area.specs.Reach.{Reach}
use Rattle.area.proofs.lemmas.WordSets.{listed}
use Rattle.area.proofs.scratch.Scratch.reaches.Goals as goal

pub returns : goal.returns
returns c =
    c.has.ensures ∙ sym (listed c.self.inside.reached c.self.inside.reached c.args.self.now.reached c.args.square
    (ap (λ (r : Reach). r.reached) c.self.view_is) refl)
