use Rattle.std.proofs.Common.{◌≡◌, ℕ, suc, ◌+◌, ◌<◌, [], ◌∷◌, length, get_or, set, sym, subst, arith}
use Rattle.std.proofs.lemmas.List.{get_or_read}
use Rattle.grid.specs.declared.dir.Dir.TheVariants.{D, L, R, U}
use Rattle.grid.proofs.lemmas.Steps.{inside_grid}
use Rattle.area.specs.declared.spread.TheConstants.{BOX_MARK}
use Rattle.area.specs.inside.Spread.{IsUnderWay}
use Rattle.area.proofs.UnderWay.{IsLooked, started, begun, looked, has_room, queued_inside, passed, tail_bound}
use Rattle.grid.proofs.lemmas.Directions.{dir_at}
use Rattle.area.proofs.spread.spread.Goals as goal

pub bounds-marks-from-inside : goal.bounds-marks-from-inside
bounds-marks-from-inside c = omega (arith, inside_grid c.args.level.now c.args.from c.requires.begun.clear)

pub bounds-queue-0 : goal.bounds-queue-0
bounds-queue-0 c = omega (arith, inside_grid c.args.level.now c.args.from c.requires.begun.clear)

pub loop-head-init : goal.loop-head-init
loop-head-init c =
    subst (λ (x : ℕ). IsUnderWay c.args.level.now BOX_MARK c.args.from c.args.marks.now
    (set c.args.marks.now x (BOX_MARK + 1))
    (set c.args.queue.now 0 c.args.from) 0 0 1) (sym c.from.view_is)
    (started c.args.level.now _ _ _ _ c.requires.begun.room c.requires.begun.places c.requires.begun.fresh
    c.requires.begun.clear c.requires.begun.vacant)

pub loop-dir-init : goal.loop-dir-init
loop-dir-init c =
    let at = get_or_read c.loop-head.queue c.loop-head.head c.index-queue-head.result (let b =
    tail_bound _ _ _ _ _ _ _ _ _ c.loop-head.invariant in
    let p = c.loop-head.invariant.places in let h = c.loop-head-test.true in
    omega (arith, b)) c.index-queue-head.is 0 in
    begun _ _ _ _ _ _ _ _ _ _ c.loop-head.invariant c.loop-head-test.true (sym at) c.square.view_is

pub next-next-requires : goal.next-next-requires
next-next-requires c = subst (λ (x : ℕ). x < length c.args.level.now.cells) c.loop-dir.invariant.at
    (queued_inside _ _ _ _ _ _ _ _ _ c.loop-dir.invariant.under c.loop-head.head c.loop-dir.invariant.here)

pub look-tail-requires-clause-space : goal.look-tail-requires-clause-space
look-tail-requires-clause-space c =
    λ clear low. has_room _ _ _ _ _ _ _ _ _ c.loop-dir.invariant.under c.next-next.result clear low

pub loop-dir-preserved : goal.loop-dir-preserved
loop-dir-preserved c =
    let i : ℕ = c.loop-dir.dir-index in
    let mark : ℕ = get_or c.loop-head.marks c.square.inside.0 0 + 1 in
    subst (λ (n : ℕ). IsLooked c.args.level.now BOX_MARK c.args.from c.args.marks.now c.look-tail.new.marks
    c.look-tail.new.queue c.loop-head.head n
    c.look-tail.result c.index-queue-head.result mark) (let e : suc i ≡ i + 1 = omega arith in e)
    (looked c.args.level.now BOX_MARK c.args.from c.args.marks.now c.loop-dir.marks c.loop-dir.queue c.loop-head.head
    i c.loop-dir.tail
    c.index-queue-head.result mark (get_or (D ∷ L ∷ R ∷ U ∷ []) i D) c.next-next.result c.loop-dir.invariant
    (dir_at i c.loop-dir-test.true)
    (sym c.next-next.ensures) c.look-tail.ensures)

pub loop-head-preserved : goal.loop-head-preserved
loop-head-preserved c =
    let mark : ℕ = get_or c.loop-head.marks c.square.inside.0 0 + 1 in
    passed _ _ _ _ _ _ _ _ _ _
    (subst (λ (n : ℕ). IsLooked c.args.level.now BOX_MARK c.args.from c.args.marks.now c.loop-dir.marks
    c.loop-dir.queue
    c.loop-head.head n c.loop-dir.tail c.index-queue-head.result mark)
    (let e : c.loop-dir.dir-index ≡ 4 = omega (arith, c.loop-dir-test.false, c.loop-dir.auto.dir-index-end) in
    e) c.loop-dir.invariant)
