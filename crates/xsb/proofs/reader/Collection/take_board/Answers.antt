use Rattle.std.proofs.Common.{refl, ◌∙◌}
use Rattle.xsb.proofs.BoardByBoard.{Takes-more, HasRead-all, ReadsBoard-copy, HasRows-read, reads-fewer}
use Rattle.xsb.proofs.reader.Collection.take_board.Goals as goal

pub returns-in_default-clause-next : goal.returns-in_default-clause-next
returns-in_default-clause-next c = λ bytes founds has. HasRead-all c.args.self.now has c.copy-lines.ensures.rest c.in_default.ensures

pub returns-clause-next : goal.returns-clause-next
returns-clause-next c = λ bytes founds has.
    let board = ReadsBoard-copy {first = c.args.self.now.lines} c.copy-lines.result c.copy-lines.ensures.rest c.copy-lines.ensures.number c.in-Some.ensures in
    Takes-more c.args.self.now (record { lines = c.read_gap-before.new.lines; before = c.read_gap-before.result })
    (record { name = c.in_ok-name.name; first_line = c.in-Some.board.first_line; board = c.in_ok-judged.judged }) has board c.read_gap-before.ensures
    (λ b a f g. c.in_ok-name.ensures.items ∙ c.name_with.ensures b a f g) refl (c.in_ok-judged.ensures _ (HasRows-read board))

pub returns-clause-fewer : goal.returns-clause-fewer
returns-clause-fewer c =
    reads-fewer (ReadsBoard-copy {first = c.args.self.now.lines} c.copy-lines.result c.copy-lines.ensures.rest c.copy-lines.ensures.number c.in-Some.ensures)
    c.read_gap-before.ensures
