use Rattle.std.proofs.Common.{◌≡◌, ◌∙◌, Some, ap, sym, subst}
use Rattle.std.specs.Prelude.{slice_get}
use Rattle.grid.specs.Board.{Scene}
use Rattle.layers.specs.LayerView.{LayerView, IsWhole}
use Rattle.layers.proofs.Flat.{row_scene, layer_row}
use Rattle.successors.proofs.lemmas.Successors.{layer_safe}
use Rattle.layers.proofs.layer.Layer.place.Goals as goal

pub read_position-requires-clause-inside : goal.read_position-requires-clause-inside
read_position-requires-clause-inside c =
    (layer_row c.self.inside c.args.self.now c.self.invariant c.self.view_is c.boxes.result c.args.rank c.boxes.ensures c.requires c.as_slice.result.now
    c.as_slice.ensures.value).1

pub read_position-requires-clause-rising : goal.read_position-requires-clause-rising
read_position-requires-clause-rising c =
    let v : LayerView = c.args.self.now in
    let whole : IsWhole v = subst IsWhole c.self.view_is c.self.invariant.whole in
    let row = layer_row c.self.inside v c.self.invariant c.self.view_is c.boxes.result c.args.rank c.boxes.ensures c.requires c.as_slice.result.now
    c.as_slice.ensures.value in (whole.fits c.args.rank (row_scene c.boxes.result c.args.rank c.as_slice.result.now) row.0).scene.rising

pub read_position-requires-clause-few : goal.read_position-requires-clause-few
read_position-requires-clause-few c =
    (layer_row c.self.inside c.args.self.now c.self.invariant c.self.view_is c.boxes.result c.args.rank c.boxes.ensures c.requires c.as_slice.result.now
    c.as_slice.ensures.value).2

pub returns : goal.returns
returns c =
    let v : LayerView = c.args.self.now in
    let whole : IsWhole v = subst IsWhole c.self.view_is c.self.invariant.whole in
    let m : Scene = c.read_position.result in
    let row = layer_row c.self.inside v c.self.invariant c.self.view_is c.boxes.result c.args.rank c.boxes.ensures c.requires
    c.as_slice.result.now c.as_slice.ensures.value in
    let here : slice_get v.places c.args.rank ≡ Some m = row.0 ∙ ap (λ (x : Scene). Some x) (sym c.read_position.ensures) in
    record { place = here; fits = whole.fits c.args.rank m here; undoomed = layer_safe v.level v.number v.places whole.layer c.args.rank m here }
