use Rattle.doom.proofs.Passes.{other_box}
use Rattle.doom.proofs.locked.has_other.Goals as goal

pub returns-then-are_few : goal.returns-then-are_few
returns-then-are_few c = other_box c.args.boxes.now c.args.members.now c.args.others.now c.is_other_box.result c.requires.among c.is_other_box.ensures
