use Rattle.std.proofs.Common.{◌+◌, ◌≤◌, ℕ, suc, Bool, IsTrue, length, sym, ap, subst, ◌∙◌, arith}
use Rattle.grid.specs.Board.{Board}
use Rattle.grid.specs.Lawful.{IsLevel}
use Rattle.grid.specs.Masks.{has_bit}
use Rattle.grid.specs.States.{FitsLevel}
use Rattle.area.specs.Pushes.{ArePushes, CanPush}
use Rattle.successors.specs.Expanding.{ExpanderView, HasPushesOf}
use Rattle.successors.specs.Problems.{Problem}
use Rattle.corrals.specs.Corrals.{IsClosure}
use Rattle.corrals.specs.Sets.{SetsView}
use Rattle.prices.specs.Helping.{SlackView}
use Rattle.prices.specs.Solving.{Allows}
use Rattle.prover.specs.inside.Working.{ArePushesDone, IsChosen, IsKept, tighter}
use Rattle.prover.proofs.Deferring.{loosened}
use Rattle.prices.proofs.lemmas.Lists.{read_again}
use Rattle.prover.proofs.Steps.{chosen_suffice, expands_by, kept_on, taken_more}
use Rattle.prover.proofs.expansion.open_all.Goals as goal

pub find_pushes-requires : goal.find_pushes-requires
find_pushes-requires c = record {
  fits = subst (λ (t : Problem). FitsLevel t.board c.args.from.now.position) (sym c.requires.problem)
      c.requires.expandable.fits;
}

pub try_push-requires-clause-possible : goal.try_push-requires-clause-possible
try_push-requires-clause-possible c =
    let was = c.loop-index.invariant in
    let i = c.loop-index.index in
    let p = c.index-pushes-index.result in
    let here = read_again (λ (v : ExpanderView). v.pushes) c.find_pushes.new.self c.loop-index.workspace.expander
    c.pushes-index-end.result.now c.pushes.result.now i p c.pushes-index-end.ensures was.same c.pushes.ensures
    c.loop-index-test.true c.index-pushes-index.is in
    subst (λ (t : Problem). CanPush t.board c.args.from.now.position p) was.problem (was.found.pushes.each i p here)

pub loop-index-preserved : goal.loop-index-preserved
loop-index-preserved c =
    let board = c.args.pruner.now.board in
    let cap = c.args.pruner.now.cap in
    let s = c.args.from.now.position in
    let k = c.args.from.now.pushes in
    let i = c.loop-index.index in
    let was = c.loop-index.invariant in
    let old = c.loop-index.workspace in
    let new = c.try_push.new.workspace in
    let p = c.index-pushes-index.result in
    let now = c.in_ok-try_push.ensures in
    let kept = c.try_push.ensures.kept in
    let all = c.args.frontier.now.entries in
    let lower = tighter cap new.next in
    let before = IsKept all k old.opened.items in
    let after = IsKept all k new.opened.items in
    let only = c.find-only.result in
    let held = old.corral.held in
    let here = read_again (λ (v : ExpanderView). v.pushes) c.find_pushes.new.self old.expander
    c.pushes-index-end.result.now c.pushes.result.now i p c.pushes-index-end.ensures was.same c.pushes.ensures
    c.loop-index-test.true c.index-pushes-index.is in
    let taken = taken_more board (tighter cap old.next) lower before after (IsChosen only held) k s old.expander.pushes i p
    now.defers.narrows (kept_on all k old.opened.items new.opened.items now.opens.still) here was.taken now.taken in
    record {
      problem = ap (λ (v : ExpanderView). v.problem) kept.0 ∙ was.problem;
      found = subst (λ (v : ExpanderView). HasPushesOf v s) (sym kept.0) was.found;
      same = kept.0 ∙ was.same;
      corral = kept.1 ∙ was.corral;
      each = now.opens.each was.each;
      taken = subst (λ (v : SetsView). ArePushesDone board lower after (IsChosen only v.held) k s new.expander.pushes
          (i + 1)) (sym kept.1)
          (subst (λ (v : ExpanderView). ArePushesDone board lower after (IsChosen only held) k s v.pushes (i + 1))
          (sym kept.0) taken);
      later = now.defers.later was.later;
    }

pub returns-clause-expansion : goal.returns-clause-expansion
returns-clause-expansion c =
    let board = c.args.pruner.now.board in
    let cap = c.args.pruner.now.cap in
    let s = c.args.from.now.position in
    let k = c.args.from.now.pushes in
    let was = c.loop-index.invariant in
    let ps = c.loop-index.workspace.expander.pushes in
    let only = c.find-only.result in
    let held = c.loop-index.workspace.corral.held in
    let left = c.left-left.result in
    let fits = c.requires.expandable.fits in
    let end = ap length c.pushes-index-end.ensures in
    let same = ap (λ (v : ExpanderView). length v.pushes) was.same in
    let over : length ps ≤ c.loop-index.index = omega (arith, end, same, c.loop-index-test.false) in
    let pushes : ArePushes board s ps = subst (λ (t : Problem). ArePushes t.board s ps) was.problem was.found.pushes in
    let room = c.find-only.new.corral.room in
    let closure : IsTrue only → (m : ℕ) → Allows left m →
    (room : ℕ → Bool) × IsClosure board (suc m) (has_bit held) room s = λ told m allowed. (
      has_bit room,
      subst (λ (v : SetsView). IsClosure board (suc m) (has_bit v.held) (has_bit room) s) (sym was.corral)
          (subst (λ (b : Board). IsClosure b (suc m) (has_bit c.find-only.new.corral.held) (has_bit room) s) c.level-2.ensures
          (c.find-only.ensures told m (subst (λ (v : SlackView). Allows v.left m) (sym c.of-slack.ensures) allowed))),
    ) in
    let level : IsLevel board = subst (λ (b : Board). IsLevel b) c.level.ensures c.tell.ensures in
    let next = c.loop-index.workspace.next in
    record {
      each = was.each;
      later = was.later;
      expands = expands_by board (tighter cap next)
          (IsKept c.args.frontier.now.entries k c.loop-index.workspace.opened.items) (IsChosen only held)
          k s ps c.loop-index.index pushes over
          (λ m allowed. chosen_suffice board left s only held level fits closure m
          (c.left-left.ensures m (loosened cap next (k + suc m) allowed))) was.taken;
    }
