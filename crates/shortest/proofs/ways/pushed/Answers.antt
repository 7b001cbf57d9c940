use Rattle.std.proofs.Common.{◌≡◌, ◌∙◌, ℕ, true, refl, sym, ap, subst}
use Rattle.grid.specs.Squares.{contains}
use Rattle.grid.specs.Board.{Scene, next}
use Rattle.grid.specs.States.{FitsLevel}
use Rattle.successors.proofs.lemmas.Successors.{after_fits}
use Rattle.shortest.proofs.Onward.{box_inside, pushed_is}
use Rattle.shortest.proofs.ways.pushed.Goals as goal

pub next-requires : goal.next-requires
next-requires c = box_inside c.args.level.now c.args.state.now c.args.push c.requires.fits.scene c.requires.possible

pub push-requires-clause-box_there : goal.push-requires-clause-box_there
push-requires-clause-box_there c = subst (λ (t : Scene). contains t.boxes c.args.push.square ≡ true) (sym c.copy-after.ensures) c.requires.possible.there

pub push-requires-clause-free : goal.push-requires-clause-free
push-requires-clause-free c =
    let ahead : ℕ = next c.args.level.now c.args.push.square c.args.push.dir in
    ap (contains c.copy-after.result.boxes) c.next.ensures ∙
    (ap (λ (t : Scene). contains t.boxes ahead) c.copy-after.ensures ∙ c.requires.possible.ahead.1)

pub returns-clause-after : goal.returns-clause-after
returns-clause-after c =
    pushed_is c.args.level.now c.args.level.now c.args.state.now c.copy-after.result c.push.new.self c.args.push c.next.result
    refl c.copy-after.ensures c.next.ensures c.push.ensures

pub returns-clause-fits : goal.returns-clause-fits
returns-clause-fits c = subst (FitsLevel c.args.level.now)
    (sym (pushed_is c.args.level.now c.args.level.now c.args.state.now c.copy-after.result c.push.new.self c.args.push c.next.result
    refl c.copy-after.ensures c.next.ensures c.push.ensures))
    (after_fits c.args.level.now c.args.state.now c.requires.fits.scene c.args.push c.requires.fits c.requires.possible)
