use Rattle.std.proofs.Common.{◌≡◌, ℕ, false, true, List, [], ◌∷◌, ◌++◌, get_or, set, sym, subst, ◌∙◌, arith}
use Rattle.std.proofs.lemmas.Bool.{true≢false}
use Rattle.grid.specs.Board.{Board, is_wall}
use Rattle.grid.specs.inside.Filling.{IsLook, board_of}
use Rattle.grid.specs.inside.Filling.IsLook.{passes, takes}
use Rattle.grid.proofs.room.look.Goals as goal

pub returns-then-is_wall_at-clause-ok : goal.returns-then-is_wall_at-clause-ok
returns-then-is_wall_at-clause-ok c = λ cols.
    let board : Board = board_of cols c.args.cells.now in
    let room = c.args.room.now in
    let pending = c.args.pending.now.items in
    subst (λ (q : ℕ). IsLook board q room pending room pending) c.square.view_is (passes (
      λ past. omega (arith, past, c.if-at-cells.false),
      λ clear. absurd (true≢false (sym c.if-is_wall_at.true ∙ (c.is_wall_at.ensures cols ∙ clear))),
    ))

pub returns-then-room-at-clause-ok : goal.returns-then-room-at-clause-ok
returns-then-room-at-clause-ok c = λ cols.
    let board : Board = board_of cols c.args.cells.now in
    let room = c.args.room.now in
    let pending = c.args.pending.now.items in
    subst (λ (q : ℕ). IsLook board q room pending room pending) c.square.view_is
    (passes (λ past. omega (arith, past, c.if-at-cells.false), λ clear. c.if-room-at.true))

pub returns-clause-ok : goal.returns-clause-ok
returns-clause-ok c = λ cols.
    let board : Board = board_of cols c.args.cells.now in
    let room = c.args.room.now in
    let pending = c.args.pending.now.items in
    let q = c.args.square in
    let floor = subst (λ (r : ℕ). is_wall board r ≡ false) c.square.view_is
    (sym (c.is_wall_at.ensures cols) ∙ c.if-is_wall_at.false) in
    let free = subst (λ (r : ℕ). get_or room r false ≡ false) c.square.view_is c.if-room-at.false in
    subst (λ (ps : List ℕ). IsLook board q room pending (set room c.square.inside.0 true) ps)
    (sym c.in_ok-append.ensures)
    (subst (λ (r : ℕ). IsLook board q room pending (set room r true) (pending ++ q ∷ [])) (sym c.square.view_is)
    (takes floor free))
