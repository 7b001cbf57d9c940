use Rattle.std.proofs.Common.{◌≡◌, rules}
use Rattle.std.proofs.lemmas.List.Elements.{same_from_all_zip}
use Rattle.grid.proofs.board.Board.copy.Goals as goal

pub invariant_of-result : goal.invariant_of-result
invariant_of-result c =
    let cells : c.in_ok-clone.field-0.items ≡ c.self.inside.cells.items = search (rules, same_from_all_zip) in
    let room : c.in_ok-clone-2.field-0.items ≡ c.self.inside.room.items = search (rules, same_from_all_zip) in
    let kept = c.self.invariant in
    record {
      level = search (rules, cells, kept.level);
      bound = search (rules, cells, kept.bound);
      rows = search (rules, cells, kept.rows);
      boxes = search (rules, cells, kept.boxes);
      player = search (rules, cells, kept.player);
      room = search (rules, cells, room, kept.room);
    }
