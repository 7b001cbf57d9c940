use Rattle.std.proofs.Common.{◌≡◌, false, true, length, sym, ap, subst, ◌∙◌, arith}
use Rattle.arrayvec.specs.ArrayVec.{with_items}
use Rattle.arrayvec.proofs.ArrayVecLemmas.{items-with_items}
use Rattle.grid.specs.Board.{Scene}
use Rattle.grid.specs.Squares.{Squares, contains, insert, remove}
use Rattle.grid.specs.Rising.{is_rising}
use Rattle.grid.proofs.lemmas.Squares.{is_rising-insert, is_rising-remove}
use Rattle.grid.proofs.position.Position.push_at.Goals as goal

pub move_square-requires-clause-rising : goal.move_square-requires-clause-rising
move_square-requires-clause-rising c = subst (λ (xs : Squares). is_rising xs ≡ true) (sym c.as_mut_slice.ensures.value) c.self.invariant

pub move_square-requires-clause-there : goal.move_square-requires-clause-there
move_square-requires-clause-there c =
    subst (λ (xs : Squares). contains xs c.args.from ≡ true) (sym c.as_mut_slice.ensures.value)
    (subst (λ (s : Scene). contains s.boxes c.args.from ≡ true) (sym c.self.view_is) c.requires.box_there)

pub move_square-requires-clause-free : goal.move_square-requires-clause-free
move_square-requires-clause-free c =
    subst (λ (xs : Squares). contains xs c.args.to ≡ false) (sym c.as_mut_slice.ensures.value)
    (subst (λ (s : Scene). contains s.boxes c.args.to ≡ false) (sym c.self.view_is) c.requires.free)

moved : (c : goal.After-from-1) → (with_items c.self.inside.boxes c.move_square.new.squares).items ≡
    insert (remove c.self.inside.boxes.items c.args.from) c.args.to
moved c =
    items-with_items c.self.inside.boxes c.move_square.new.squares (omega (arith, c.move_square.auto.squares, ap length c.as_mut_slice.ensures.value))
    ∙ (c.move_square.ensures ∙ ap (λ (xs : Squares). insert (remove xs c.args.from) c.args.to) c.as_mut_slice.ensures.value)

pub invariant_of-self : goal.invariant_of-self
invariant_of-self c =
    let xs = c.self.inside.boxes.items in
    subst (λ (ys : Squares). is_rising ys ≡ true) (sym (moved c))
    (is_rising-insert (remove xs c.args.from) c.args.to (is_rising-remove xs c.args.from c.self.invariant))

pub returns : goal.returns
returns c =
    let boxes = moved c ∙ ap (λ (t : Scene). insert (remove t.boxes c.args.from) c.args.to) c.self.view_is in
    ap (λ (zs : Squares). record { boxes = zs; player = c.args.from }) boxes
