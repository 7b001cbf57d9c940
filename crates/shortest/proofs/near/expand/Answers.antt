use Rattle.std.proofs.Common.{◌∙◌, refl, sym, ap, subst}
use Rattle.grid.specs.Board.{Board}
use Rattle.grid.specs.States.{FitsLevel}
use Rattle.area.specs.Pushes.{CanPush}
use Rattle.successors.specs.Expanding.{ExpanderView, HasPushesOf}
use Rattle.successors.specs.Problems.{Problem}
use Rattle.prices.proofs.lemmas.Lists.{read_again}
use Rattle.shortest.proofs.near.expand.Goals as goal

pub find_pushes-requires : goal.find_pushes-requires
find_pushes-requires c = record {
  fits = subst (λ (b : Board). FitsLevel b c.args.from.now.state) (sym c.requires.ready.expander) c.requires.fits;
}

pub loop-index-init : goal.loop-index-init
loop-index-init c = record {
  ready = record {
    expander = ap (λ (t : Problem). t.board) c.find_pushes.ensures.problem ∙ c.requires.ready.expander;
    walks = c.measure.ensures.room ∙ c.requires.ready.walks;
  };
  found = c.find_pushes.ensures.found;
  same = refl;
  list = c.requires.list;
}

pub list_after-requires-clause-possible : goal.list_after-requires-clause-possible
list_after-requires-clause-possible c =
    let was = c.loop-index.invariant in
    let i = c.loop-index.index in
    let p = c.index-pushes-index.result in
    let here = read_again (λ (v : ExpanderView). v.pushes) c.find_pushes.new.self c.loop-index.memory.workspace.expander
    c.pushes-index-end.result.now c.pushes.result.now i p c.pushes-index-end.ensures was.same c.pushes.ensures
    c.loop-index-test.true c.index-pushes-index.is in
    subst (λ (b : Board). CanPush b c.args.from.now.state p) was.ready.expander (was.found.pushes.each i p here)

pub loop-index-preserved : goal.loop-index-preserved
loop-index-preserved c =
    let was = c.loop-index.invariant in
    let kept = c.list_after.ensures.kept in
    record {
      ready = c.list_after.ensures.ready;
      found = subst (λ (v : ExpanderView). HasPushesOf v c.args.from.now.state) (sym kept) was.found;
      same = kept ∙ was.same;
      list = c.list_after.ensures.list;
    }
