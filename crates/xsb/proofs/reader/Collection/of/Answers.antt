use Rattle.xsb.proofs.BoardByBoard.{HasRead-none}
use Rattle.xsb.proofs.reader.Collection.of.Goals as goal

pub returns-clause-begins : goal.returns-clause-begins
returns-clause-begins c =
    HasRead-none (record { lines = c.read_gap-before.new.lines; before = c.read_gap-before.result }) c.read_gap-before.ensures c.of-lines.ensures.lines
    c.of-lines.ensures.first
