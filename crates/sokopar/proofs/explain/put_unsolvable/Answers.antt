-- Three texts in turn, if there are any.
use Rattle.std.proofs.Common.{◌==◌, ◌++◌, codes, decimal, refl}
use Rattle.sokopar.proofs.Sentencing.{three_put, unless_said, unequal}
use Rattle.sokopar.proofs.explain.put_unsolvable.Goals as goal

pub returns : goal.returns
returns c =
    unless_said c.put-2.result c.args.text.now c.put-2.new.self (codes ", " ++ decimal c.args.lost ++ codes " of them unsolvable") (c.args.lost == 0)
    (unequal c.args.lost 0 c.if-lost-eq0.false (c.args.lost == 0) refl)
    (three_put c.put-2.result c.args.text.now (codes ", ") (decimal c.args.lost) (codes " of them unsolvable") c.put.new.self c.put_number.new.self
    c.put-2.new.self c.in_ok-put.ensures.ok c.in_ok-put_number.ensures.ok c.put-2.ensures.ok)
