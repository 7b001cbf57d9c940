use Rattle.std.proofs.Common.{◌≡◌, ◌≤◌, true, rules, length, arith}
use Rattle.grid.specs.Squares.{contains}
use Rattle.grid.specs.Board.{next}
use Rattle.prices.specs.inside.Slacks.{tolls_of}
use Rattle.prices.specs.inside.Sums.{need_by, need_seen}
use Rattle.prices.proofs.Slacks.{dear_never_helps}
use Rattle.prices.proofs.slack.Slack.least.Goals as goal

pub returns : goal.returns
returns c m lt =
    let a = c.self.inside in
    let t = a.table.now in
    let level = a.level.now in
    let s = a.position.now in
    let b = c.args.square in
    let there : contains s.boxes b ≡ true = search rules in
    let size : length (tolls_of a) ≡ length t.goals.items = search rules in
    let low : c.need-after.result ≤ need_by t (tolls_of a) (next level b c.args.dir) b = search rules in
    let seen : c.need-before.result ≡ need_seen t (tolls_of a) b s.player = search rules in
    rw (← c.self.view_is) (dear_never_helps level t (tolls_of a) m c.need-after.result s b c.args.dir
    c.self.invariant.far c.self.invariant.goals size c.self.invariant.scene there low
    (omega (arith, lt, seen, c.self.invariant.price, c.self.invariant.needs size)))
