use Rattle.std.proofs.Common.{ℕ, List, length, drop, sym, subst, arith}
use Rattle.area.specs.WalkLengths.{AreWalkLengths}
use Rattle.area.proofs.Seams.{written}
use Rattle.area.proofs.walks.Walks.measure.Goals as goal

pub returns-clause-lengths : goal.returns-clause-lengths
returns-clause-lengths c =
    subst (λ (ms : List ℕ). AreWalkLengths c.args.level.now c.args.position.now ms)
    (sym (written c.measure.new.marks (drop (length c.measure.new.marks) c.self.inside.marks.items) c.self.inside.marks.len
    (omega arith))) c.measure.ensures.lengths
