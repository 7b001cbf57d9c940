use Rattle.std.proofs.Common.{sym, ◌∙◌, rules}
use Rattle.layers.proofs.lemmas.Admissions.{admitted_alike}
use Rattle.layers.proofs.making.first_position.Goals as goal

pub doomed-requires-clause-dead_of_level : goal.doomed-requires-clause-dead_of_level
doomed-requires-clause-dead_of_level c = c.dead.ensures ∙ sym c.level-level.ensures

pub returns-clause-first : goal.returns-clause-first
returns-clause-first c = (
  search rules,
  search rules,
  search rules,
  admitted_alike c.args.problem.now 0 c.args.position.now c.normal-normal.result (sym c.normal-normal.ensures.norm.boxes)
      (c.is_admitted.ensures.0 c.if-not-is_admitted.false),
)
