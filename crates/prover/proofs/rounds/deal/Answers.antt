use Rattle.std.proofs.Common.{arith, refl, rules, ◌<◌, ◌∙◌, ◌%◌, length, sym, subst}
use Rattle.std.proofs.lemmas.Bool.{false≢true}
use Rattle.std.proofs.lemmas.List.{length-set}
use Rattle.grid.specs.Board.{Board, IsSolved}
use Rattle.store.specs.Visited.{VisitedView}
use Rattle.successors.proofs.lemmas.Lists.{each_set}
use Rattle.prover.specs.inside.Rounds.{IsLane}
use Rattle.prover.specs.inside.Working.{IsSearchOnBoard}
use Rattle.prover.proofs.Dealing.{each_at, ready_by}
use Rattle.prices.proofs.lemmas.Lists.{in_range}
use Rattle.prover.proofs.rounds.deal.Goals as goal

pub add-requires : goal.add-requires
add-requires c =
    let board = c.args.pruner.now.board in
    let cap = c.args.pruner.now.cap in
    let now = c.take_open.new.self in
    let same = sym (c.take_open.ensures.same ∙ c.loop-index.invariant.same) in
    let few = subst (λ (v : VisitedView). length v.entries < 4294967296) same (omega (arith, c.requires.few)) in
    let reach = c.expanded-from.ensures.place.1 in
    let inside : c.in-Some.place < length now.entries = search rules in
    let (x, at) = in_range now.entries c.in-Some.place inside in
    ready_by board cap now c.in-Some.place x c.expanded-from.result (subst (λ (v : VisitedView). IsSearchOnBoard board cap v) same c.requires.searched)
    (omega (arith, few)) at (c.expanded-from.ensures.entry x at) (omega (arith, reach))
    (λ solved. false≢true (sym c.if-solved.false ∙ c.is_solved-solved.ensures.1
    (subst (λ (b : Board). IsSolved b c.expanded-from.result.position) (sym c.level.ensures) solved)))

pub loop-index-init : goal.loop-index-init
loop-index-init c = record {
  same = refl;
  lanes = c.clear_all.ensures.lanes c.args.pruner.now c.args.frontier.now.entries c.requires.lanes;
  all = c.clear_all.ensures.all;
}

pub loop-index-preserved : goal.loop-index-preserved
loop-index-preserved c =
    let is = IsLane c.args.pruner.now c.args.frontier.now.entries in
    let was = c.loop-index.invariant in
    let size = was.all in
    let many = c.requires.all in
    let place = c.loop-index.index % 16 in
    record {
      same = c.take_open.ensures.same ∙ was.same;
      lanes = each_set is c.loop-index.lanes place c.add.new.self
          (c.in_ok-add.ensures c.args.frontier.now.entries (each_at is c.loop-index.lanes place (omega (arith, size, many)) was.lanes _)) was.lanes;
      all = length-set c.loop-index.lanes place c.add.new.self ∙ was.all;
    }
