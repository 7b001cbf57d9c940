use Rattle.std.proofs.Common.{◌≡◌, Some, ap, ◌∙◌}
use Rattle.std.proofs.lemmas.Result.{IfOk-weaker}
use Rattle.std.specs.Prelude.{slice_get}
use Rattle.grid.specs.Board.{Scene}
use Rattle.successors.specs.Problems.{Problem}
use Rattle.solo.specs.Leads.{WritesLead, level_of, last_places}
use Rattle.successors.specs.LeastPlays.{WritesLeastPlay}
use Rattle.solo.proofs.ReadingBack.{first_level, own_trail, lead_played, lead_moves}
use Rattle.solo.proofs.lead.moves_to.Goals as goal

pub play_pushes-requires-clause-played : goal.play_pushes-requires-clause-played
play_pushes-requires-clause-played c =
    let layers = c.args.layers.now in
    let first = first_level layers c.requires.layers c.index-layers-0.result c.index-layers-0.is in
    let trailed = own_trail layers c.requires.layers c.tell_each.ensures in
    let lead = c.in_ok-pushes.ensures (level_of layers) layers trailed c.requires.rank in
    lead_played (level_of layers) c.level.result.now (last_places layers) c.args.rank c.in_ok-pushes.pushes.items
    c.as_slice.result.now (c.level.ensures ∙ ap (λ (t : Problem). t.board) first) c.as_slice.ensures.value lead

pub returns-clause-lead : goal.returns-clause-lead
returns-clause-lead c =
    let layers = c.args.layers.now in
    let first = first_level layers c.requires.layers c.index-layers-0.result c.index-layers-0.is in
    let trailed = own_trail layers c.requires.layers c.tell_each.ensures in
    let lead = c.in_ok-pushes.ensures (level_of layers) layers trailed c.requires.rank in
    IfOk-weaker c.play_pushes.result
    (λ moves. (t : Scene) × WritesLeastPlay c.level.result.now c.as_slice.result.now t moves)
    (λ moves. (n : Scene) → slice_get (last_places layers) c.args.rank ≡ Some n → WritesLead (level_of layers).board n moves)
    (lead_moves (level_of layers) c.level.result.now (last_places layers) c.args.rank c.in_ok-pushes.pushes.items
    c.as_slice.result.now (c.level.ensures ∙ ap (λ (t : Problem). t.board) first) c.as_slice.ensures.value lead)
    c.play_pushes.ensures.least
