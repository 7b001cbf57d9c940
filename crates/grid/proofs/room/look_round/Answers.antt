use Rattle.std.proofs.Common.{◌≡◌, ℕ, suc, ◌+◌, [], ◌∷◌, get_or, inl, inr, sym, ap, subst, ◌∙◌, arith}
use Rattle.std.proofs.lemmas.Result.{err_from_is_err_and}
use Rattle.grid.specs.declared.around.Around.{Around}
use Rattle.grid.specs.declared.dir.Dir.{Dir}
use Rattle.grid.specs.declared.dir.Dir.TheVariants.{D, L, R, U}
use Rattle.grid.specs.Board.{Board, next}
use Rattle.grid.specs.Masks.{square_to}
use Rattle.grid.specs.inside.AroundView.{around_of}
use Rattle.grid.specs.inside.Filling.{board_of}
use Rattle.grid.proofs.Bits.{square_to-around_of}
use Rattle.grid.proofs.lemmas.Filling.{IsLooking, all_seen, first_inside, looked, open_at}
use Rattle.grid.proofs.lemmas.Directions.{dir_at}
use Rattle.grid.proofs.lemmas.Steps.{next_bound}
use Rattle.grid.proofs.room.look_round.Goals as goal

-- the square beside another that the neighbours show in a direction
beside : (board : Board) (a : Around) (q at n : ℕ) (d : Dir) → a ≡ around_of board at → at ≡ q → n ≡ square_to d a
    → next board q d ≡ n
beside board a q at n d near same told =
    sym (told ∙ (ap (λ (x : Around). square_to d x) near
    ∙ (square_to-around_of board at d ∙ ap (λ (x : ℕ). next board x d) same)))

pub neighbours_of-around-requires-clause-inside : goal.neighbours_of-around-requires-clause-inside
neighbours_of-around-requires-clause-inside c =
    let board : Board = board_of c.args.cols c.args.cells.now in
    let lies = first_inside board c.args.room.now c.args.square c.args.pending.now.items c.requires.filling in
    omega (arith, lies, c.square.view_is)

pub look-requires-clause-inside : goal.look-requires-clause-inside
look-requires-clause-inside c =
    let board : Board = board_of c.args.cols c.args.cells.now in
    let d : Dir = get_or (D ∷ L ∷ R ∷ U ∷ []) c.loop-dir.dir-index D in
    let lies = first_inside board c.args.room.now c.args.square c.args.pending.now.items c.requires.filling in
    let at = beside board _ c.args.square _ c.to.result d c.neighbours_of-around.ensures c.square.view_is c.to.ensures in
    omega (arith, at, next_bound board c.args.square d lies)

pub loop-dir-preserved : goal.loop-dir-preserved
loop-dir-preserved c =
    let board : Board = board_of c.args.cols c.args.cells.now in
    let i = c.loop-dir.dir-index in
    let d : Dir = get_or (D ∷ L ∷ R ∷ U ∷ []) i D in
    let at = beside board _ c.args.square _ c.to.result d c.neighbours_of-around.ensures c.square.view_is c.to.ensures in
    let k = looked board c.loop-dir.room c.loop-dir.pending.items c.args.square i d c.to.result
    c.loop-dir.invariant.looking (dir_at i c.loop-dir-test.true) at (c.in_ok-look.ensures.ok c.args.cols) in
    record {
      looking = subst (λ (n : ℕ). IsLooking board c.look.new.room c.look.new.pending.items c.args.square n)
          (let e : suc i ≡ i + 1 = omega arith in e) k.0;
      work = omega (arith, k.1, c.loop-dir.invariant.work);
    }

pub returns-clause-filling : goal.returns-clause-filling
returns-clause-filling c =
    let board : Board = board_of c.args.cols c.args.cells.now in
    all_seen board c.loop-dir.room c.loop-dir.pending.items c.args.square
    (subst (λ (n : ℕ). IsLooking board c.loop-dir.room c.loop-dir.pending.items c.args.square n)
    (let e : c.loop-dir.dir-index ≡ 4 = omega (arith, c.loop-dir-test.false, c.loop-dir.auto.dir-index-end) in e)
    c.loop-dir.invariant.looking)

pub returns-in_err-look-clause-err : goal.returns-in_err-look-clause-err
returns-in_err-look-clause-err c =
    let board : Board = board_of c.args.cols c.args.cells.now in
    let d : Dir = get_or (D ∷ L ∷ R ∷ U ∷ []) c.loop-dir.dir-index D in
    let at = beside board _ c.args.square _ c.to.result d c.neighbours_of-around.ensures c.square.view_is c.to.ensures in
    let p = err_from_is_err_and c.from_residual.result c.from_residual.ensures.1 in
    rw (p.1, p.2) (elim c.in_err-look.ensures.err [
      | inl e ↦ inl e
      | inr e ↦ inr (
        e.0,
        open_at board c.loop-dir.room c.args.square c.to.result d c.loop-dir.pending.items
            c.loop-dir.invariant.looking.filling at e.1,
      )
    ])
