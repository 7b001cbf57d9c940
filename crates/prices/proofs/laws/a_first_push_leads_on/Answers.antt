use Rattle.prices.proofs.lemmas.Solving.{first_push_leads, none_is_not_solvable, norms_change_nothing, walks_change_nothing}
use Rattle.prices.proofs.laws.a_first_push_leads_on.Goals as goal

pub returns : goal.returns
returns c = record {
  first = first_push_leads c.args.level.now;
  walks = walks_change_nothing c.args.level.now;
  norms = norms_change_nothing c.args.level.now;
  none = none_is_not_solvable c.args.level.now;
}
