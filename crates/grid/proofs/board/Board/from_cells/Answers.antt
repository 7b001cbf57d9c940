use Rattle.std.proofs.Common.{◌≡◌, ℕ, ◌/◌, ◌↔◌, Bool, false, Option, None, List, count_by, refl, sym, ap, subst, ◌∙◌, arith}
use Rattle.grid.specs.declared.cell.Cell.{Cell}
use Rattle.grid.specs.declared.fault.LevelFault.{LevelFault}
use Rattle.grid.specs.Board.{Board, box_cell, is_wall, start, start_player}
use Rattle.grid.specs.Lawful.{InRoom, IsLevel, IsOpen, cell_fault, player_count}
use Rattle.grid.specs.inside.Filling.{IsMarked}
use Rattle.grid.proofs.lemmas.Levels.{counts_of, level_squares, start_is_scene_with}
use Rattle.grid.proofs.board.Board.from_cells.Goals as goal

-- what the answer that no cell is at fault says of the board
lawful_of : (board : Board) (cols : ℕ) (xs ys : List Cell) (r : Option LevelFault) → board ≡ record { cols = cols; cells = xs } →
    r ≡ cell_fault (record { cols = cols; cells = ys }) → ys ≡ xs → r ≡ None → cell_fault board ≡ None
lawful_of board cols xs ys r is said same none =
    ap cell_fault is ∙ (ap (λ (zs : List Cell). cell_fault (record { cols = cols; cells = zs })) (sym same) ∙ (sym said ∙ none))

start_on_floor : (board : Board) → player_count board ≡ 1 → is_wall board (start_player board) ≡ false
unfolding start
start_on_floor board one = (start_is_scene_with board one).player.0

player_of : (board : Board) (cols p : ℕ) (xs ys : List Cell) → board ≡ record { cols = cols; cells = xs } → ys ≡ xs →
    p ≡ start_player (record { cols = cols; cells = ys }) → p ≡ start_player board
player_of board cols p xs ys is same said =
    said ∙ (ap (λ (zs : List Cell). start_player (record { cols = cols; cells = zs })) same ∙ ap start_player (sym is))

-- what is known of the room of the same cells
closed_of : (board : Board) (cols : ℕ) (xs ys : List Cell) → board ≡ record { cols = cols; cells = xs } → ys ≡ xs →
    (IsOpen (record { cols = cols; cells = ys }) → ⊥) → IsOpen board → ⊥
closed_of board cols xs ys is same closed gap =
    closed (subst (λ (zs : List Cell). IsOpen (record { cols = cols; cells = zs })) (sym same) (subst IsOpen is gap))

room_of : (board : Board) (cols : ℕ) (marks : List Bool) (xs ys : List Cell) → board ≡ record { cols = cols; cells = xs } → ys ≡ xs
    → ((q : ℕ) → IsMarked marks q ↔ InRoom (record { cols = cols; cells = ys }) q) → (q : ℕ) → IsMarked marks q ↔ InRoom board q
room_of board cols marks xs ys is same told q =
    subst (λ (b : Board). IsMarked marks q ↔
    InRoom b q) (sym is) (subst (λ (zs : List Cell). IsMarked marks q ↔ InRoom (record { cols = cols; cells = zs }) q) same (told q))

pub room_of-requires-clause-start : goal.room_of-requires-clause-start
room_of-requires-clause-start c =
    let board : Board = record { cols = c.args.cols; cells = c.as_slice-3.result.now } in
    player_of board c.args.cols _ _ _ refl (c.as_slice-2.ensures.value ∙ sym c.as_slice-3.ensures.value) (c.player_of-player.ensures c.args.cols)

pub room_of-requires-clause-floor : goal.room_of-requires-clause-floor
room_of-requires-clause-floor c =
    let board : Board = record { cols = c.args.cols; cells = c.as_slice-3.result.now } in
    let lawful = lawful_of board c.args.cols _ _ _ refl c.cell_fault.ensures (c.as_slice.ensures.value ∙ sym c.as_slice-3.ensures.value) c.in_default.is in
    let player = player_of board c.args.cols _ _ _ refl (c.as_slice-2.ensures.value ∙
    sym c.as_slice-3.ensures.value) (c.player_of-player.ensures c.args.cols) in
    subst (λ (q : ℕ). is_wall board q ≡ false) (sym player) (start_on_floor board (counts_of board lawful).player)

pub invariant_of-result : goal.invariant_of-result
invariant_of-result c =
    let cells = c.args.cells.items in
    let board : Board = record { cols = c.args.cols; cells = cells } in
    let lawful = lawful_of board c.args.cols cells _ _ refl c.cell_fault.ensures c.as_slice.ensures.value c.in_default.is in
    let level : IsLevel board = record {
      columns = c.requires.columns;
      whole = c.requires.whole;
      lawful = record { cells = lawful; closed = closed_of board c.args.cols cells _ refl c.as_slice-3.ensures.value c.in_ok-room.ensures.closed };
    } in
    record {
      level = level;
      bound = level_squares board level;
      rows = ap (λ (n : ℕ). n / c.args.cols) (omega (arith, c.len.ensures, c.args.cells.ok.0));
      boxes = c.boxes_of-boxes.ensures ∙ ap (count_by box_cell) c.as_slice-4.ensures.value;
      player = player_of board c.args.cols _ cells _ refl c.as_slice-2.ensures.value (c.player_of-player.ensures c.args.cols);
      room = room_of board c.args.cols _ cells _ refl c.as_slice-3.ensures.value c.in_ok-room.ensures.marked;
    }
