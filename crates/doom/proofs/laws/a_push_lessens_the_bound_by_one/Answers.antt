use Rattle.doom.proofs.lemmas.Bounds.{push_lessens, solved_need_none, lower_once}
use Rattle.doom.proofs.laws.a_push_lessens_the_bound_by_one.Goals as goal

pub returns : goal.returns
returns c = record {
  push = push_lessens c.args.level.now;
  solved = solved_need_none c.args.level.now;
  one = lower_once c.args.level.now;
}
