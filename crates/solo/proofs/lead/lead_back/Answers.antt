use Rattle.std.proofs.Common.{refl, sym, subst, ◌∙◌}
use Rattle.solo.specs.inside.LeadsBack.{IsLeadAt}
use Rattle.solo.specs.inside.Searched.{AreTrailed}
use Rattle.solo.proofs.ReadingBack.{back_start, back_on, told_same}
use Rattle.solo.proofs.lead.lead_back.Goals as goal

pub returns-in_default : goal.returns-in_default
returns-in_default c =
    subst (IsLeadAt c.args.layer.now.level c.args.layer.now.places c.args.rank) (sym c.new.ensures.items)
    (back_start c.args.trail.now c.args.layer.now c.requires.next c.tell.ensures c.args.rank c.requires.rank (sym c.parent.ensures ∙ c.in_default.is))

pub returns : goal.returns
returns c =
    subst (IsLeadAt c.args.layer.now.level c.args.layer.now.places c.args.rank) (sym c.in_ok-push.ensures.items)
    (back_on c.args.trail.now c.args.layer.now c.requires.next c.tell.ensures c.args.rank c.requires.rank (c.in-Some.parent, c.in-Some.push)
    (sym c.parent.ensures ∙ c.in-Some.is) c.in_ok-pushes.pushes.items
    (λ board layers trailed lt. c.in_ok-pushes.ensures board layers (subst (AreTrailed board layers) (sym (told_same _ (λ o. refl) c.args.trail.now)) trailed)
    lt))
