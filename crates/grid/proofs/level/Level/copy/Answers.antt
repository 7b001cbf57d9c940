use Rattle.std.proofs.Common.{◌≡◌, rules}
use Rattle.std.proofs.lemmas.List.Elements.{same_from_all_zip}
use Rattle.grid.proofs.level.Level.copy.Goals as goal

pub invariant_of-result : goal.invariant_of-result
invariant_of-result c =
    let board = c.in_ok-copy.ensures in
    let around : c.in_ok-clone.field-0.items ≡ c.self.inside.around.items = search (rules, same_from_all_zip) in
    let room : c.in_ok-clone-2.field-0.items ≡ c.self.inside.room.items = search (rules, same_from_all_zip) in
    let kept = c.self.invariant in
    record {
      places = search (rules, board, around, kept.places);
      around = search (rules, board, around, kept.around);
      room = search (rules, board, room, kept.room);
    }
