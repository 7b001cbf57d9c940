use Rattle.prices.proofs.lemmas.Helping.{costs_tell, never_leads_on}
use Rattle.prices.proofs.laws.costs_tell_what_never_helps.Goals as goal

pub returns : goal.returns
returns c = record { costs = costs_tell c.args.level.now; leads = never_leads_on c.args.level.now }
