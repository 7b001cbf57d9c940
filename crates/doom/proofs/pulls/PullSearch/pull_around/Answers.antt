use Rattle.grid.specs.declared.dir.Dir.TheVariants.{D, L, R, U}
use Rattle.grid.proofs.lemmas.Directions.{dir_at}
use Rattle.std.proofs.Common.{get_or, ◌≡◌, [], ◌∷◌, ◌+◌, sym, ◌∙◌, subst, arith}
use Rattle.doom.specs.inside.Pulling.{IsDue, Pulls}
use Rattle.doom.proofs.Pulling.{spread_pull, pull_count}
use Rattle.doom.proofs.pulls.PullSearch.pull_around.Goals as goal

pub loop-dir-preserved : goal.loop-dir-preserved
loop-dir-preserved c =
    let board = c.args.level.now in
    let k = c.args.steps in
    let s = c.args.square in
    let i = c.loop-dir.dir-index in
    let d = get_or (D ∷ L ∷ R ∷ U ∷ []) i D in
    let far = c.loop-dir.self.far.items in
    let marked = c.loop-dir.self.marked.items in
    let far' = c.pull.new.self.far.items in
    let marked' = c.pull.new.self.marked.items in
    let due' = c.pull.new.self.due.items in
    let before = c.loop-dir.invariant in
    let pulls : Pulls board k s d far marked far' marked' = c.in_ok-pull.ensures.pulls in
    let less = pull_count board k s d far far' marked marked' before.due.spread.size pulls in
    let still : due' ≡ c.loop-dir.self.due.items = c.pull.ensures.due in
    record {
      due = subst (λ ys. IsDue board k s (i + 1) far' ys marked') (sym still)
          (spread_pull board k s i d far far' c.loop-dir.self.due.items marked marked'
          (dir_at i c.loop-dir-test.true) pulls before.due);
      same = still ∙ before.same;
      count = omega (arith, less, before.count);
    }
