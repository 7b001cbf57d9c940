use Rattle.std.proofs.lemmas.Cmp.{upto}
use Rattle.grid.proofs.lemmas.Orders.{least_solution_same, solution_cmp_total, solutions_either, same_solution}
use Rattle.grid.proofs.laws.solutions_are_ordered.Goals as goal

pub returns-clause-either : goal.returns-clause-either
returns-clause-either c = solutions_either

pub returns-clause-onward : goal.returns-clause-onward
returns-clause-onward c = λ ds es fs ps qs rs one two. upto solution_cmp_total (ds, ps) (es, qs) (fs, rs) one two

pub returns-clause-same : goal.returns-clause-same
returns-clause-same c = same_solution

pub returns-clause-least : goal.returns-clause-least
returns-clause-least c = least_solution_same
