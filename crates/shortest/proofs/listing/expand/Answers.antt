use Rattle.std.proofs.Common.{arith}
use Rattle.shortest.proofs.Layering.{expanded_last}
use Rattle.shortest.proofs.listing.expand.Goals as goal

pub returns-then-from-cap-clause-listing : goal.returns-then-from-cap-clause-listing
returns-then-from-cap-clause-listing c = record {
  listed = expanded_last c.args.bounds.now.board c.args.bounds.now.cap c.args.place c.args.listed.now.entries
      c.reached_at-from.result.pushes c.reached_at-from.result.state
      (let cap = c.cap.ensures in let enough = c.if-from-cap.true in omega (arith, cap, enough)) c.requires.listing.listed c.reached_at-from.ensures;
  boxes = c.requires.listing.boxes;
  squares = c.requires.listing.squares;
}
