use Rattle.area.proofs.PushLists.{past_last}
use Rattle.area.proofs.possible.push_box.Goals as goal

pub returns-clause-pushes : goal.returns-clause-pushes
returns-clause-pushes c = λ before.
    past_last c.args.level.now c.args.scratch.now c.args.square c.push_if-4.new.pushes.items
    (c.push_if-4.ensures.pushes (c.push_if-3.ensures.pushes (c.push_if-2.ensures.pushes (c.push_if.ensures.pushes before))))
