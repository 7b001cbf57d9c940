use Rattle.std.proofs.Common.{◌≡◌, ◌<◌, [], length, refl, sym, ◌∙◌, arith}
use Rattle.std.proofs.lemmas.Bool.{false≢true}
use Rattle.doom.specs.inside.Pulling.{Marks}
use Rattle.doom.specs.Deadlocks.{home}
use Rattle.doom.proofs.Pulling.{spread_none, spread_more, spread_mark, spread_goals, marks_here}
use Rattle.doom.proofs.pulls.PullSearch.mark_goals.Goals as goal
use Rattle.doom.proofs.pulls.PullSearch.mark_goals.Goals.{then-is_goal+in_ok-mark, else-is_goal}

pub loop-index-init : goal.loop-index-init
loop-index-init c = (rw (c.requires.none, c.requires.clear) (spread_none c.args.level.now), refl)

pub loop-index-preserved : goal.loop-index-preserved
loop-index-preserved c =
    let board = c.args.level.now in
    let i = c.loop-index.index in
    let far = c.loop-index.self.far.items in
    let marked = c.loop-index.self.marked.items in
    let far' = c.if-is_goal.self.far.items in
    let marked' = c.if-is_goal.self.marked.items in
    elim c.if-is_goal.branch [
      | then-is_goal+in_ok-mark w ↦
          let same : far' ≡ w.mark.new.self.far.items = cc in
          let still : marked' ≡ w.mark.new.self.marked.items = cc in
          let marks : Marks 0 i far marked far' marked' = (same ∙ w.in_ok-mark.ensures.marks.0, still ∙ w.in_ok-mark.ensures.marks.1) in
          let lt : i < length far = omega (arith, c.loop-index.invariant.0.size, c.loop-index-test.true) in (
            spread_more board i far' marked'
                (λ _. marks_here board (λ q. q < i) (λ _ _. Unit {0}) 0 i far [] marked lt c.loop-index.invariant.0
                far' marked' marks)
                (spread_mark board (λ q. q < i) (λ _ _. Unit {0}) 0 i far [] marked lt c.loop-index.invariant.0
                far' marked' marks (home (sym w.if-is_goal.ensures), refl)),
            cc,
          )
      | else-is_goal w ↦
          let same : far' ≡ far = cc in
          let still : marked' ≡ marked = cc in (
            spread_more board i far' marked' (λ goal. absurd (false≢true (w.if-is_goal.ensures ∙ goal)))
                (rw (same, still) c.loop-index.invariant.0),
            cc,
          )
    ]

pub returns-clause-filling : goal.returns-clause-filling
returns-clause-filling c = spread_goals c.args.level.now c.loop-index.index c.loop-index.self.far.items c.loop-index.self.marked.items
    (omega arith) c.loop-index.invariant.0
