use Rattle.std.proofs.Common.{length, sym, take, drop}
use Rattle.std.proofs.lemmas.List.{take-append-drop}
use Rattle.crew.proofs.Dealing.{roomy_cut, roomy_joined}
use Rattle.crew.proofs.desks.work_first.Goals as goal

pub work_all-requires-clause-room : goal.work_all-requires-clause-room
work_all-requires-clause-room g c κs within =
    let size = length c.args.shared.now.layer.level.board.cells in let desks = c.args.desks.now in let many = c.most_at_work-many.result in
    c.deal.ensures.room size (roomy_cut size desks (take many desks) (drop many desks) (sym (take-append-drop many desks)) c.requires.room).0

pub returns : goal.returns
returns g c =
    let size = length c.args.shared.now.layer.level.board.cells in let desks = c.args.desks.now in let many = c.most_at_work-many.result in
    record {
      room = roomy_joined size c.work_all.new.desks (drop many desks) c.work_all.ensures.room
          (roomy_cut size desks (take many desks) (drop many desks) (sym (take-append-drop many desks)) c.requires.room).1;
    }
