-- The texts make a sentence.
use Rattle.std.proofs.Common.{codes, decimal}
use Rattle.sokopar.proofs.Sentencing.{sentence_said}
use Rattle.sokopar.proofs.sentences.put_tall.Goals as goal

pub returns : goal.returns
returns c = sentence_said c.put-4.result c.args.text.now (codes "row ") (decimal c.args.row) (codes " is at line ") (decimal c.args.line)
    c.put.new.self c.put-2.new.self c.put_number.new.self c.put-3.new.self c.put_number-2.new.self c.put-4.new.self
    c.in_ok-put.ensures.ok c.in_ok-put-2.ensures.ok c.in_ok-put_number.ensures.ok c.in_ok-put-3.ensures.ok c.in_ok-put_number-2.ensures.ok
    c.put-4.ensures.ok
