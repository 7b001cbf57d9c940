use Rattle.std.proofs.Common.{length, sym, subst}
use Rattle.crew.specs.inside.Desks.{AreRoomy}
use Rattle.crew.proofs.Dealing.{roomy_push}
use Rattle.crew.proofs.desks.append_desk.Goals as goal

pub returns-in_err-push-clause-room : goal.returns-in_err-push-clause-room
returns-in_err-push-clause-room c = λ roomy. subst (AreRoomy (length c.args.level.now.cells)) (sym c.in_err-push.ensures.items) roomy

pub returns-clause-room : goal.returns-clause-room
returns-clause-room c =
    λ roomy. subst (AreRoomy (length c.args.level.now.cells)) (sym c.in_ok-push.ensures.items)
    (roomy_push (length c.args.level.now.cells) c.args.desks.now.items _ c.in_ok-scratch.ensures roomy)
