use Rattle.std.proofs.Common.{rules}
use Rattle.doom.proofs.Ways.{distance_of}
use Rattle.doom.proofs.bound.Bound.distance.Goals as goal

pub returns : goal.returns
returns c = search (rules, distance_of)
