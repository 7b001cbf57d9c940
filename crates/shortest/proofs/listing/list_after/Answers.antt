use Rattle.std.proofs.Common.{◌+◌, ◌-◌, ◌≤◌, ◌∙◌, length, refl, sym, ap, subst, arith}
use Rattle.grid.specs.Board.{Board}
use Rattle.grid.specs.States.{FitsLevel}
use Rattle.area.specs.Pushes.{ArePushes, CanPush}
use Rattle.successors.specs.Expanding.{ExpanderView, HasPushesOf}
use Rattle.successors.specs.Problems.{Problem}
use Rattle.prices.proofs.lemmas.Lists.{read_again}
use Rattle.shortest.specs.inside.Listing.{ArePushesKept}
use Rattle.shortest.proofs.Layering.{after_fits, expanded_on, fits_at, pushed_on}
use Rattle.shortest.proofs.listing.list_after.Goals as goal

pub find_pushes-requires : goal.find_pushes-requires
find_pushes-requires c = record {
  fits = subst (λ (b : Board). FitsLevel b c.args.from.now.state) (sym c.requires.board)
      (fits_at _ _ _ _ _ _ _ c.requires.listing.listed c.requires.at_place);
}

pub loop-index-init : goal.loop-index-init
loop-index-init c = record {
  board = ap (λ (t : Problem). t.board) c.find_pushes.ensures.problem ∙ c.requires.board;
  found = c.find_pushes.ensures.found;
  same = refl;
  listing = c.requires.listing;
  at_place = c.requires.at_place;
  kept = λ i p lt at. absurd (omega (arith, lt));
}

pub state_after-after-requires-clause-possible : goal.state_after-after-requires-clause-possible
state_after-after-requires-clause-possible c =
    let was = c.loop-index.invariant in
    let i = c.loop-index.index in
    let p = c.index-pushes-index.result in
    let here = read_again (λ (v : ExpanderView). v.pushes) c.find_pushes.new.self c.loop-index.workspace.expander
    c.pushes-index-end.result.now c.pushes.result.now i p c.pushes-index-end.ensures was.same c.pushes.ensures
    c.loop-index-test.true c.index-pushes-index.is in
    subst (λ (b : Board). CanPush b c.args.from.now.state p) was.board (was.found.pushes.each i p here)

pub loop-index-preserved : goal.loop-index-preserved
loop-index-preserved c =
    let board = c.args.bounds.now.board in
    let cap = c.args.bounds.now.cap in
    let s = c.args.from.now.state in
    let k = c.args.from.now.pushes in
    let was = c.loop-index.invariant in
    let ps = c.loop-index.workspace.expander.pushes in
    let p = c.index-pushes-index.result in
    let kept = c.state_after-after.ensures.kept in
    let new = c.list_if_some.new.listed in
    let here = read_again (λ (v : ExpanderView). v.pushes) c.find_pushes.new.self c.loop-index.workspace.expander
    c.pushes-index-end.result.now c.pushes.result.now c.loop-index.index p c.pushes-index-end.ensures was.same
    c.pushes.ensures c.loop-index-test.true c.index-pushes-index.is in
    let can = subst (λ (b : Board). CanPush b s p) was.board (was.found.pushes.each c.loop-index.index p here) in
    let fewer = c.requires.fewer in
    let top = c.cap.ensures in
    let step = pushed_on board cap c.args.place c.loop-index.listed.entries k s p was.listing.listed was.at_place fewer can new.entries
    (c.cap.result - k - 1) (k + 1) c.state_after-after.result ps c.loop-index.index (omega (arith, fewer, top)) (omega arith) here
    c.state_after-after.ensures.after c.in_ok-list_if_some.ensures.lists was.kept in
    let size = c.list_if_some.ensures.size in
    record {
      board = ap (λ (v : ExpanderView). v.problem.board) kept ∙ was.board;
      found = subst (λ (v : ExpanderView). HasPushesOf v s) (sym kept) was.found;
      same = kept ∙ was.same;
      listing = record { listed = step.0; boxes = size.0 ∙ was.listing.boxes; squares = size.1 ∙ was.listing.squares };
      at_place = step.1;
      kept = subst (λ (v : ExpanderView). ArePushesKept board cap new.entries k s v.pushes (c.loop-index.index + 1)) (sym kept) step.2;
    }

pub list_if_some-requires-clause-fits : goal.list_if_some-requires-clause-fits
list_if_some-requires-clause-fits c =
    let was = c.loop-index.invariant in
    after_fits c.args.bounds.now.board _ _ _ c.args.from.now.state c.index-pushes-index.result c.state_after-after.result was.listing.boxes was.listing.squares
    c.state_after-after.ensures.after

pub list_if_some-requires-clause-most : goal.list_if_some-requires-clause-most
list_if_some-requires-clause-most c = λ i x at.
    let was = c.loop-index.invariant in
    let near = was.listing.listed.near c.args.place i was.at_place.0 x (omega arith) was.at_place.1 at in
    let count = was.at_place.3 in
    omega (arith, near, count)

pub returns-clause-listing : goal.returns-clause-listing
returns-clause-listing c =
    let board = c.args.bounds.now.board in
    let cap = c.args.bounds.now.cap in
    let s = c.args.from.now.state in
    let k = c.args.from.now.pushes in
    let was = c.loop-index.invariant in
    let ps = c.loop-index.workspace.expander.pushes in
    let end = ap length c.pushes-index-end.ensures in
    let same = ap (λ (v : ExpanderView). length v.pushes) was.same in
    let over : length ps ≤ c.loop-index.index = omega (arith, end, same, c.loop-index-test.false) in
    let pushes : ArePushes board s ps = subst (λ (b : Board). ArePushes b s ps) was.board was.found.pushes in
    record {
      listed = expanded_on board cap c.args.place c.loop-index.listed.entries k s ps c.loop-index.index pushes over was.listing.listed was.at_place was.kept;
      boxes = was.listing.boxes;
      squares = was.listing.squares;
    }
