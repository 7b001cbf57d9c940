use Rattle.std.proofs.Common.{◌≡◌, length, sym, ap, subst, ◌∙◌}
use Rattle.successors.specs.Problems.{Problem}
use Rattle.crew.specs.inside.Desks.{AreRoomy}
use Rattle.crew.proofs.desks.Desks.work.Goals as goal

pub work_first-requires-clause-room : goal.work_first-requires-clause-room
work_first-requires-clause-room g c κs within =
    let size = length c.self.inside.problem.now.board.cells in
    let same : size ≡ length c.args.shared.now.layer.level.board.cells = ap (λ (t : Problem). length t.board.cells) (c.self.view_is ∙ c.requires.problem) in
    subst (λ n. AreRoomy n c.as_mut_slice.result.now) same (subst (AreRoomy size) (sym c.as_mut_slice.ensures.value) c.self.invariant.1)
