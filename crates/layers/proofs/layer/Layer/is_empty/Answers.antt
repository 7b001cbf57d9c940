use Rattle.std.proofs.Common.{◌≡◌, ◌==◌, length, sym, ap, subst}
use Rattle.std.specs.Arc.{arc_value}
use Rattle.grid.specs.Lawful.{box_count}
use Rattle.layers.proofs.Flat.{length-scenes_of}
use Rattle.layers.proofs.layer.Layer.is_empty.Goals as goal

pub returns : goal.returns
returns c =
    let a = c.self.inside in
    subst (λ v. (a.count == 0) ≡ (length v.places == 0)) c.self.view_is
    (ap (λ n. n == 0) (sym (length-scenes_of (box_count (arc_value a.problem).board) a.count a.squares.items)))
