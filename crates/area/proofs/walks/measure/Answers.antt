use Rattle.std.proofs.Common.{ℕ, ap, subst, sym, arith}
use Rattle.std.proofs.Common.{◌∙◌, get_or}
use Rattle.grid.specs.Squares.{Squares, contains}
use Rattle.grid.proofs.lemmas.Steps.{inside_grid}
use Rattle.area.specs.declared.spread.TheConstants.{BOX_MARK}
use Rattle.area.specs.inside.Spread.{AreBlocked, IsSpread}
use Rattle.area.proofs.WalkLengths.{lengths_marked, still_blocked}
use Rattle.area.proofs.walks.measure.Goals as goal

pub mark_boxes-requires : goal.mark_boxes-requires
mark_boxes-requires c = λ q there.
    let wall = c.requires.fits.scene.boxes q (ap (λ (xs : Squares). contains xs q) (sym c.boxes.ensures.squares) ∙ there) in
    let inside = inside_grid c.args.level.now q wall in
    omega (arith, inside, c.requires.room)

pub returns : goal.returns
returns c =
    let s = c.args.position.now in
    let blocked = subst (λ (xs : Squares). AreBlocked BOX_MARK xs c.mark_boxes.new.marks) c.boxes.ensures.squares c.mark_boxes.ensures.blocked in
    let spread = subst (λ (from : ℕ). IsSpread c.args.level.now BOX_MARK from (λ q. get_or c.spread.new.marks q 0)) c.player.ensures c.spread.ensures.spread in
    record {
      lengths = lengths_marked c.args.level.now s c.spread.new.marks spread
          (still_blocked s.boxes c.mark_boxes.new.marks c.spread.new.marks blocked c.spread.ensures.blocked);
    }
