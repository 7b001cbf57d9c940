use Rattle.std.proofs.Common.{refl}
use Rattle.layers.proofs.Expanded.{is_source}
use Rattle.layers.proofs.expanding.ranked_position.Goals as goal

pub returns-clause-ranked : goal.returns-clause-ranked
returns-clause-ranked c =
    is_source c.args.layer.now c.tell.ensures c.args.layer.now.level.board c.cap.result c.number.result c.args.rank c.place.result refl c.cap.ensures
    c.number.ensures c.place.ensures.place c.place.ensures.fits c.place.ensures.undoomed
