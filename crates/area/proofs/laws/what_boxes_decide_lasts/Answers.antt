use Rattle.std.proofs.Common.{◌≡◌, true}
use Rattle.grid.specs.Squares.{Squares}
use Rattle.grid.proofs.lemmas.Plays.{walk_of_boxes}
use Rattle.area.proofs.laws.what_boxes_decide_lasts.Goals as goal

pub returns : goal.returns
returns c = λ board s t ds test h p. walk_of_boxes (λ (b : Squares). test b ≡ true) h p
