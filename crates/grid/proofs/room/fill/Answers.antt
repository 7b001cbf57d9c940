use Rattle.std.proofs.Common.{◌≡◌, ℕ, ◌∷◌, Bool, List, [], true, set, sym, subst, arith}
use Rattle.std.proofs.lemmas.List.{nil_from_length}
use Rattle.grid.specs.Board.{Board}
use Rattle.grid.specs.inside.Filling.{IsFilling, board_of}
use Rattle.grid.proofs.lemmas.Filling.{fill_closed, fill_done, fill_start, last_first}
use Rattle.grid.proofs.lemmas.Steps.{inside_grid}
use Rattle.grid.proofs.room.fill.Goals as goal

-- what nothing pending leaves
done : (board : Board) (marks : List Bool) (pending : List ℕ) → pending ≡ [] → IsFilling board marks pending → IsFilling board marks []
done board marks pending none f = subst (λ (xs : List ℕ). IsFilling board marks xs) none f

pub bounds-room-player-inside : goal.bounds-room-player-inside
bounds-room-player-inside c =
    let lies = inside_grid (board_of c.args.cols c.args.cells.now) c.args.player c.requires.floor in
    omega (arith, lies, c.requires.size, c.player.view_is)

pub loop-square-init : goal.loop-square-init
loop-square-init c =
    let board : Board = board_of c.args.cols c.args.cells.now in
    let items = c.in_ok-pending.ensures.items_if_clones_equal (λ y e. e) in
    subst (λ (xs : List ℕ). IsFilling board (set c.args.room.now c.player.inside.0 true) xs) (sym items)
    (subst (λ (q : ℕ). IsFilling board (set c.args.room.now q true) (c.args.player ∷ [])) (sym c.player.view_is)
    (fill_start board c.args.room.now c.args.player c.requires.size c.requires.clear c.requires.start c.requires.floor))

pub look_round-requires-clause-filling : goal.look_round-requires-clause-filling
look_round-requires-clause-filling c =
    let board : Board = board_of c.args.cols c.args.cells.now in
    last_first board c.loop-square.room c.pop.new.self.items c.in-Some.square
    (subst (IsFilling board c.loop-square.room) c.in-Some.ensures.items c.loop-square.invariant)

pub returns-clause-marked : goal.returns-clause-marked
returns-clause-marked c =
    let board : Board = board_of c.args.cols c.args.cells.now in
    let none : c.loop-square.pending.items ≡ [] =
    nil_from_length c.loop-square.pending.items (omega (arith, c.in_default.ensures.cases.0, c.loop-square.pending.ok.0)) in
    fill_done board c.loop-square.room (done board c.loop-square.room c.loop-square.pending.items none c.loop-square.invariant)

pub returns-clause-closed : goal.returns-clause-closed
returns-clause-closed c =
    let board : Board = board_of c.args.cols c.args.cells.now in
    let none : c.loop-square.pending.items ≡ [] =
    nil_from_length c.loop-square.pending.items (omega (arith, c.in_default.ensures.cases.0, c.loop-square.pending.ok.0)) in
    fill_closed board c.loop-square.room (done board c.loop-square.room c.loop-square.pending.items none c.loop-square.invariant)
