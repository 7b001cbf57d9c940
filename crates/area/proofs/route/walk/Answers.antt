use Rattle.std.proofs.Common.{ℕ, List, length, get_or, ◌<◌, drop, refl, sym, ap, subst, ◌∙◌, arith}
use Rattle.std.proofs.lemmas.Bool.{true≢false}
use Rattle.grid.proofs.lemmas.Steps.{inside_grid}
use Rattle.area.specs.declared.spread.TheConstants.{BOX_MARK}
use Rattle.area.specs.Reach.{Reach}
use Rattle.area.specs.inside.Spread.{IsSpread}
use Rattle.area.proofs.Reached.{walk_free}
use Rattle.area.proofs.Descents.{no_way, least_way, ok_gives}
use Rattle.area.proofs.Seams.{written, read_written}
use Rattle.area.proofs.route.walk.Goals as goal
use Rattle.area.proofs.route.walk.Goals.{then-is_wall-via-then-is_wall, then-is_wall-via-else-is_wall+then-has_box}

pub returns-then-is_wall-clause-walk : goal.returns-then-is_wall-clause-walk
returns-then-is_wall-clause-walk c = (
  λ ds p. (let f = walk_free _ _ _ _ c.requires.scene p in
      elim c.then-is_wall.branch [
        | then-is_wall-via-then-is_wall w ↦ true≢false (sym w.if-is_wall.true ∙ (c.is_wall.ensures ∙ f.0))
        | then-is_wall-via-else-is_wall+then-has_box w ↦ true≢false (sym w.if-has_box.true ∙ (w.has_box.ensures ∙ f.1))
      ]),
  refl,
)

pub index-requires : goal.index-requires
index-requires c =
    let lt = inside_grid c.args.level.now c.args.state.now.player c.requires.scene.player.0 in
    let size = ap (λ (r : Reach). r.size) c.scratch.view_is in
    omega (arith, lt, size, c.scratch.invariant.marks, c.player-player.ensures, c.player.view_is, c.requires.room)

pub returns-then-index-le-BOX_MARK-clause-walk : goal.returns-then-index-le-BOX_MARK-clause-walk
returns-then-index-le-BOX_MARK-clause-walk c =
    let inside : c.player.inside.0 < c.scratch.inside.marks.len = (let lt = inside_grid c.args.level.now c.args.state.now.player c.requires.scene.player.0 in
    let size = ap (λ (r : Reach). r.size) c.scratch.view_is in omega (arith, lt, size, c.scratch.invariant.marks, c.player-player.ensures, c.player.view_is, c.requires.room)) in
    let mark = read_written c.search_from.new.marks
    (drop (length c.search_from.new.marks) c.scratch.inside.marks.items) c.scratch.inside.marks.len c.player.inside.0 c.args.state.now.player
    c.index.result.now (omega arith) inside c.index.ensures (c.player.view_is ∙ c.player-player.ensures) in (
      no_way c.args.level.now c.args.state.now c.args.square BOX_MARK c.args.state.now.player c.search_from.new.marks _
          c.search_from.ensures refl refl c.requires.scene (omega (arith, mark, c.if-index-le-BOX_MARK.true)),
      refl,
    )

pub descend-outcome-requires-clause-reached : goal.descend-outcome-requires-clause-reached
descend-outcome-requires-clause-reached c =
    let inside : c.player.inside.0 < c.scratch.inside.marks.len = (let lt = inside_grid c.args.level.now c.args.state.now.player c.requires.scene.player.0 in
    let size = ap (λ (r : Reach). r.size) c.scratch.view_is in omega (arith, lt, size, c.scratch.invariant.marks, c.player-player.ensures, c.player.view_is, c.requires.room)) in
    let mark = read_written c.search_from.new.marks
    (drop (length c.search_from.new.marks) c.scratch.inside.marks.items) c.scratch.inside.marks.len c.player.inside.0 c.player-player.result
    c.index.result.now (omega arith) inside c.index.ensures c.player.view_is in
    let same = ap (λ (ms : List ℕ). get_or ms c.player-player.result 0) (c.deref.ensures.value ∙
    written c.search_from.new.marks (drop (length c.search_from.new.marks) c.scratch.inside.marks.items) c.scratch.inside.marks.len
    (omega arith)) in
    omega (arith, mark, same, c.if-index-le-BOX_MARK.false)

pub descend-outcome-requires-clause-spread : goal.descend-outcome-requires-clause-spread
descend-outcome-requires-clause-spread c =
    let same = c.deref.ensures.value ∙
    written c.search_from.new.marks (drop (length c.search_from.new.marks) c.scratch.inside.marks.items) c.scratch.inside.marks.len
    (omega arith) in
    subst (λ (ms : List ℕ). IsSpread c.args.level.now BOX_MARK c.args.square (λ (q : ℕ). get_or ms q 0))
    (sym same) c.search_from.ensures.spread

pub returns-clause-walk : goal.returns-clause-walk
returns-clause-walk c =
    let same = c.deref.ensures.value ∙
    written c.search_from.new.marks (drop (length c.search_from.new.marks) c.scratch.inside.marks.items) c.scratch.inside.marks.len
    (omega arith) in
    let x = ok_gives c.descend-outcome.result c.if-is_err.ensures.negation c.descend-outcome.ensures.ok in
    (x.0, least_way _ _ _ _ _ _ _ _ c.search_from.ensures same c.player-player.ensures c.requires.scene x.1, x.2)
