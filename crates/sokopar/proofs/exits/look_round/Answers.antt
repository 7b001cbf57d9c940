-- Each look is one more round the square.
use Rattle.std.proofs.Common.{[], ◌∷◌, ◌+◌, drop, get_or, refl, arith}
use Rattle.grid.specs.declared.dir.Dir.{Dir}
use Rattle.grid.specs.declared.dir.Dir.TheVariants.{D, L, R, U}
use Rattle.grid.proofs.lemmas.Filling.{first_inside}
use Rattle.grid.proofs.lemmas.Directions.{dir_at}
use Rattle.sokopar.specs.inside.Explaining.{board_in}
use Rattle.sokopar.proofs.Exiting.{beside_inside, turned, turning_more}
use Rattle.sokopar.proofs.exits.look_round.Goals as goal

pub next_to-place-requires-clause-inside : goal.next_to-place-requires-clause-inside
next_to-place-requires-clause-inside c = first_inside (board_in c.args.rows.now) c.loop-dir.marks c.args.square
    (drop (c.args.turn + 1) c.loop-dir.pending.items) c.loop-dir.invariant.looking.filling

pub look-requires-clause-inside : goal.look-requires-clause-inside
look-requires-clause-inside c =
    let d : Dir = get_or (D ∷ L ∷ R ∷ U ∷ []) c.loop-dir.dir-index D in
    beside_inside (board_in c.args.rows.now) (c.args.turn + 1) c.args.square c.loop-dir.dir-index d c.args.marks.now c.loop-dir.marks
    c.args.pending.now.items c.loop-dir.pending.items c.loop-dir.invariant c.next_to-place.result c.next_to-place.ensures
    (λ ends. c.if-place-len.false (omega (arith, ends, c.len.ensures, c.args.rows.now.cells.ok.0)))

pub loop-dir-preserved : goal.loop-dir-preserved
loop-dir-preserved c =
    let d : Dir = get_or (D ∷ L ∷ R ∷ U ∷ []) c.loop-dir.dir-index D in
    turning_more (board_in c.args.rows.now) (c.args.turn + 1) c.args.square c.loop-dir.dir-index d c.args.marks.now c.loop-dir.marks
    c.args.pending.now.items c.loop-dir.pending.items c.loop-dir.invariant c.next_to-place.result (c.loop-dir.dir-index + 1) c.look.new.marks
    c.look.new.pending.items (dir_at c.loop-dir.dir-index c.loop-dir-test.true) c.next_to-place.ensures refl c.in_ok-look.ensures

pub returns : goal.returns
returns c = turned (board_in c.args.rows.now) (c.args.turn + 1) c.args.square c.loop-dir.dir-index c.args.marks.now c.loop-dir.marks
    c.args.pending.now.items c.loop-dir.pending.items c.loop-dir.invariant
    (omega (arith, c.loop-dir-test.false, c.loop-dir.auto.dir-index-end))
