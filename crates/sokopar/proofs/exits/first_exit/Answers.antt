-- The next square is looked round from, and in the end there is an exit.
use Rattle.std.proofs.Common.{◌+◌, Bool, MatchBool, slice_get, ap, sym, subst, ◌∙◌, arith}
use Rattle.grid.specs.Squares.{Squares}
use Rattle.sokopar.specs.Explaining.{IsExit}
use Rattle.sokopar.specs.inside.Explaining.{HasTurned, board_in}
use Rattle.sokopar.proofs.Exiting.{next_below, next_filling, next_less, no_exit}
use Rattle.sokopar.proofs.exits.first_exit.Goals as goal

pub look_round-requires-clause-filling : goal.look_round-requires-clause-filling
look_round-requires-clause-filling c =
    let is = ap (λ (ps : Squares). slice_get ps c.turns.turn) (sym c.as_slice.ensures.value) ∙ sym c.pending_at.ensures ∙ c.in-Some.is in
    next_filling (board_in c.args.rows.now) c.turns.turn c.turns.marks c.turns.pending.items c.turns.invariant c.in-Some.square is

pub turns-smaller : goal.turns-smaller
turns-smaller c =
    let board = board_in c.args.rows.now in
    let is = ap (λ (ps : Squares). slice_get ps c.turns.turn) (sym c.as_slice.ensures.value) ∙ sym c.pending_at.ensures ∙ c.in-Some.is in
    next_less board c.turns.turn c.turns.marks c.turns.pending.items c.turns.invariant c.in-Some.square c.look_round.new.marks
    c.look_round.new.pending.items is (subst (λ (b : Bool). MatchBool b (IsExit board c.in-Some.square)
    (HasTurned board (c.turns.turn + 1) c.turns.marks c.turns.pending.items c.look_round.new.marks c.look_round.new.pending.items))
    c.if-ends.false c.in_ok-ends.ensures)

pub returns : goal.returns
returns c =
    let none = ap (λ (ps : Squares). slice_get ps c.turns.turn) (sym c.as_slice.ensures.value) ∙ sym c.pending_at.ensures ∙ c.in_default.is in
    no_exit (board_in c.args.rows.now) c.turns.turn c.turns.marks c.turns.pending.items c.turns.invariant none

pub overflow_add-turn : goal.overflow_add-turn
overflow_add-turn c =
    let is = ap (λ (ps : Squares). slice_get ps c.turns.turn) (sym c.as_slice.ensures.value) ∙ sym c.pending_at.ensures ∙ c.in-Some.is in
    let below = next_below c.turns.pending.items c.turns.turn c.in-Some.square is in
    omega (arith, below, c.turns.pending.ok.0)
