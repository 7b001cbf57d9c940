use Rattle.std.proofs.Common.{◌↔◌, not, IsTrue, rules}
use Rattle.doom.specs.Deadlocks.{IsDead}
use Rattle.doom.proofs.lemmas.Soundness.{dead_loses_box}
use Rattle.doom.proofs.dead.Dead.is_dead.Goals as goal

pub returns-clause-lost : goal.returns-clause-lost
returns-clause-lost c found =
    let tells : IsTrue (not c.unwrap_or.result) ↔ IsDead c.args.self.now c.args.square = search rules in
    dead_loses_box c.args.self.now c.args.square (tells.0 found)
