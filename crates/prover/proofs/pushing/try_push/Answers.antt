use Rattle.std.proofs.Common.{◌+◌, ◌<◌, ◌∙◌, ℕ, Option, suc, subst, sym, arith}
use Rattle.std.proofs.lemmas.Bool.{ltb-true, true≢false}
use Rattle.prover.specs.inside.Working.{IsKept, IsPushDone, lesser_total, tighter}
use Rattle.prover.proofs.Deferring.{defers_one, lesser_below, loosened}
use Rattle.prover.proofs.Steps.{below_refused, taken_dear}
use Rattle.prover.proofs.pushing.try_push.Goals as goal
use Rattle.prover.proofs.pushing.try_push.Goals.{then-low-from, else-low-from}

pub returns-then-not-allowed-clause-taken : goal.returns-then-not-allowed-clause-taken
returns-then-not-allowed-clause-taken c = λ chosen.
    let k = c.args.from.now.pushes in
    let cap = c.args.pruner.now.cap in
    let next = c.args.workspace.now.next in
    let low = c.rounded-low.result in
    let ready = c.requires.expandable in
    taken_dear ready.fits.scene c.requires.possible (tighter cap next)
    (IsKept c.args.frontier.now.entries k c.args.workspace.now.opened.items) k c.total_of.result low
    c.least-least.result c.args.slack.now ready.reached c.requires.slack c.least-least.ensures c.total_of.ensures.most
    c.rounded-low.ensures.least
    (λ m allowed. below_refused cap low (k + suc m)
    (λ ok. true≢false (sym (c.allows-allowed.ensures.1 ok) ∙ c.if-not-allowed.true))
    (loosened cap next (k + suc m) allowed))

pub returns-then-later-clause-taken : goal.returns-then-later-clause-taken
returns-then-later-clause-taken c = λ chosen.
    let board = c.args.pruner.now.board in
    let k = c.args.from.now.pushes in
    let cap = c.args.pruner.now.cap in
    let next = c.args.workspace.now.next in
    let Kept = IsKept c.args.frontier.now.entries k c.args.workspace.now.opened.items in
    let low = c.rounded-low.result in
    let ready = c.requires.expandable in
    subst (λ (o : Option ℕ). IsPushDone board (tighter cap o) Kept k c.args.from.now.position c.args.push)
    (sym c.lesser-workspace.ensures)
    (taken_dear ready.fits.scene c.requires.possible (tighter cap (lesser_total next low)) Kept k c.total_of.result low
    c.least-least.result c.args.slack.now ready.reached c.requires.slack c.least-least.ensures c.total_of.ensures.most
    c.rounded-low.ensures.least (λ m. lesser_below cap next low (k + suc m) (omega arith)))

pub returns-then-later-clause-defers : goal.returns-then-later-clause-defers
returns-then-later-clause-defers c =
    let later : c.args.from.now.reach < c.rounded-low.result = elim c.if-low-from.branch [
      | then-low-from w ↦ omega (arith, w.if-low-from)
      | else-low-from w ↦ ltb-true c.args.from.now.reach c.rounded-low.result (sym w.later-is ∙ c.if-later.true)
    ] in
    defers_one c.args.pruner.now.cap c.args.from.now.reach c.args.workspace.now.next c.lesser-workspace.result
    c.rounded-low.result c.lesser-workspace.ensures later (c.allows-allowed.ensures.0 c.if-not-allowed.false)
