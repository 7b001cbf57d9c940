use Rattle.std.proofs.Common.{◌≡◌, ℕ, suc, ◌+◌, ◌<◌, true, [], ◌∷◌, length, get_or, drop, sym, ap, ◌∙◌, drop-cons, arith}
use Rattle.std.proofs.Math.Seq.{drop-length}
use Rattle.std.proofs.lemmas.List.{get_or_read}
use Rattle.grid.specs.Squares.{Squares, contains}
use Rattle.grid.proofs.lemmas.Squares.{contains-get_or}
use Rattle.grid.proofs.lemmas.Steps.{inside_grid}
use Rattle.area.proofs.PushLists.{listing_first, listing_here, listing_next, listing_last}
use Rattle.area.proofs.possible.possible_pushes.Goals as goal

-- the box at an index, and those after it
split : (xs : Squares) (i x : ℕ) → i < length xs → x ≡ get_or xs i x → drop i xs ≡ x ∷ drop (i + 1) xs
split xs i x lt is = drop-cons xs i x lt ∙ (ap (λ (y : ℕ). y ∷ drop (suc i) xs) (sym is) ∙
    ap (λ (k : ℕ). x ∷ drop k xs) (let e : suc i ≡ i + 1 = omega arith in e))

-- is one of them
among : (xs : Squares) (i x : ℕ) → i < length xs → x ≡ get_or xs i x → contains xs x ≡ true
among xs i x lt is = ap (contains xs) (get_or_read xs i x lt is 0) ∙ contains-get_or xs i 0 lt

-- and after the last one there are none
none_left : (xs : Squares) (i : ℕ) → length xs ≡ i → drop i xs ≡ []
none_left xs i end = ap (λ (k : ℕ). drop k xs) (sym end) ∙ drop-length xs

pub loop-square-init : goal.loop-square-init
loop-square-init c = listing_first c.args.level.now c.flood.new.scratch c.boxes-boxes.result.now _ c.boxes-boxes.ensures.rising
    (c.flood.ensures.boxes ∙ sym c.boxes-boxes.ensures.squares) c.clear.ensures

pub push_box-requires-clause-there : goal.push_box-requires-clause-there
push_box-requires-clause-there c =
    ap (λ (b : Squares). contains b c.square-item.result) (c.flood.ensures.boxes ∙ sym c.boxes-boxes.ensures.squares) ∙
    among c.boxes-boxes.result.now c.loop-square.square-index c.square-item.result c.loop-square-test.true c.square-item.is

pub push_box-requires-clause-inside : goal.push_box-requires-clause-inside
push_box-requires-clause-inside c = inside_grid c.args.level.now c.square-item.result (c.requires.fits.scene.boxes c.square-item.result
    (ap (λ (b : Squares). contains b c.square-item.result) (sym c.boxes-boxes.ensures.squares) ∙
    among c.boxes-boxes.result.now c.loop-square.square-index c.square-item.result c.loop-square-test.true c.square-item.is))

pub push_box-requires-clause-room : goal.push_box-requires-clause-room
push_box-requires-clause-room c =
    let bound = c.loop-square.invariant.bound in omega (arith, bound, c.loop-square-test.true, c.boxes-boxes.ensures.bound)

pub loop-square-preserved : goal.loop-square-preserved
loop-square-preserved c =
    let boxes = c.boxes-boxes.result.now in
    let i = c.loop-square.square-index in
    let apart = split boxes i c.square-item.result c.loop-square-test.true c.square-item.is in
    listing_next c.args.level.now c.flood.new.scratch c.square-item.result (drop i boxes) (drop (i + 1) boxes) i c.loop-square.pushes.items apart
    c.loop-square.invariant c.push_box.new.pushes.items
    (c.push_box.ensures.pushes (listing_here c.args.level.now c.flood.new.scratch c.square-item.result (drop i boxes) (drop (i + 1) boxes) i
    c.loop-square.pushes.items apart c.loop-square.invariant)) c.push_box.ensures.bound

pub returns-clause-pushes : goal.returns-clause-pushes
returns-clause-pushes c =
    listing_last c.args.level.now c.args.position.now c.flood.new.scratch (drop c.loop-square.square-index c.boxes-boxes.result.now)
    c.loop-square.square-index c.loop-square.pushes.items c.requires.fits.scene c.flood.ensures.boxes c.flood.ensures.reached
    (none_left c.boxes-boxes.result.now c.loop-square.square-index (omega (arith, c.loop-square-test.false, c.loop-square.auto.square-index-end)))
    c.loop-square.invariant
