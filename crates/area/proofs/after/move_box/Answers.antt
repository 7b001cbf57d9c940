use Rattle.std.proofs.Common.{refl}
use Rattle.area.proofs.lemmas.Moving.{moved_bit}
use Rattle.area.proofs.after.move_box.Goals as goal

pub returns-clause-moved : goal.returns-clause-moved
returns-clause-moved c = λ q. moved_bit c.args.boxes.now c.args.boxes.now c.copy_without.new.self c.put.new.self c.args.square c.args.ahead refl
    c.copy_without.ensures.out c.put.ensures.put q
