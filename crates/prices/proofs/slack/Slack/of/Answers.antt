use Rattle.std.proofs.Common.{rules}
use Rattle.prices.proofs.slack.Slack.of.Goals as goal

pub invariant_of-result : goal.invariant_of-result
invariant_of-result c = record {
  scene = search rules;
  far = c.distances.invariant.0;
  goals = c.distances.invariant.1;
  price = search rules;
  needs = search rules;
}
