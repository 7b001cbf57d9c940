use Rattle.std.proofs.Common.{Some, suc, rules, arith}
use Rattle.std.proofs.lemmas.Bool.{ltb-true}
use Rattle.prices.specs.Solving.{Allows}
use Rattle.prices.proofs.slack.Slack.never_helps.Goals as goal

pub returns-in-Some : goal.returns-in-Some
returns-in-Some c told m allowed =
    let few : Allows (Some c.in-Some.left) m = search rules in
    c.least.ensures (suc m) (omega (arith, ltb-true _ c.least.result told, few, c.from.ensures))
