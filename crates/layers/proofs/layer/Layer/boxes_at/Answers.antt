use Rattle.std.proofs.Common.{◌∙◌, ap, sym}
use Rattle.std.proofs.lemmas.Option.{same_Some}
use Rattle.grid.specs.Board.{Scene}
use Rattle.layers.proofs.Flat.{row_scene, layer_row}
use Rattle.layers.proofs.layer.Layer.boxes_at.Goals as goal

pub read_boxes-requires : goal.read_boxes-requires
read_boxes-requires c =
    (layer_row c.self.inside c.args.self.now c.self.invariant c.self.view_is c.boxes.result c.args.rank c.boxes.ensures c.requires c.as_slice.result.now
    c.as_slice.ensures.value).1

pub returns : goal.returns
returns c = λ m at.
    let row = layer_row c.self.inside c.args.self.now c.self.invariant c.self.view_is c.boxes.result c.args.rank c.boxes.ensures c.requires
    c.as_slice.result.now c.as_slice.ensures.value in let scene = row_scene c.boxes.result c.args.rank c.as_slice.result.now in
    c.read_boxes.ensures ∙ ap (λ (n : Scene). n.boxes) (same_Some scene m (sym row.0 ∙ at))
