use Rattle.std.proofs.Common.{ℕ, List, subst, rules}
use Rattle.area.specs.inside.RoomFloods.{IsWidened}
use Rattle.area.proofs.Widening.{widened_then}
use Rattle.area.proofs.rooms.widen_few.Goals as goal

pub loop-clear-preserved : goal.loop-clear-preserved
loop-clear-preserved g c = widened_then c.args.cols c.copy_from_slice.new.self c.args.reached.now c.loop-clear.words c.round.new.words
    c.loop-clear.invariant c.round.ensures.widened

pub returns-clause-widened : goal.returns-clause-widened
returns-clause-widened g c =
    let all : IsWidened c.args.cols c.args.free.now c.args.reached.now c.round.new.words =
    subst (λ (fs : List ℕ). IsWidened c.args.cols fs c.args.reached.now c.round.new.words) c.copy_from_slice.ensures.after
    (widened_then c.args.cols c.copy_from_slice.new.self c.args.reached.now c.loop-clear.words c.round.new.words c.loop-clear.invariant
    c.round.ensures.widened) in
    search (rules, all)
