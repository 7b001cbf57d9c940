use Rattle.std.proofs.Common.{◌≡◌, Some}
use Rattle.std.proofs.lemmas.Result.{IfOk-weaker}
use Rattle.std.specs.Prelude.{slice_get}
use Rattle.grid.specs.Board.{Scene}
use Rattle.solo.specs.Leads.{WritesLead}
use Rattle.successors.specs.LeastPlays.{WritesLeastPlay}
use Rattle.solo.proofs.ReadingBack.{lead_played, lead_moves}
use Rattle.solo.proofs.lead.moves_back.Goals as goal

pub play_pushes-requires-clause-played : goal.play_pushes-requires-clause-played
play_pushes-requires-clause-played c =
    let layer = c.args.layer.now in
    lead_played layer.level c.level.result.now layer.places c.args.rank c.in_ok-pushes.pushes.items
    c.as_slice.result.now c.level.ensures c.as_slice.ensures.value c.in_ok-pushes.ensures

pub returns-clause-lead : goal.returns-clause-lead
returns-clause-lead c =
    let layer = c.args.layer.now in
    IfOk-weaker c.play_pushes.result
    (λ moves. (t : Scene) × WritesLeastPlay c.level.result.now c.as_slice.result.now t moves)
    (λ moves. (n : Scene) → slice_get layer.places c.args.rank ≡ Some n → WritesLead layer.level.board n moves)
    (lead_moves layer.level c.level.result.now layer.places c.args.rank c.in_ok-pushes.pushes.items c.as_slice.result.now
    c.level.ensures c.as_slice.ensures.value c.in_ok-pushes.ensures) c.play_pushes.ensures.least
