use Rattle.std.proofs.Common.{rules, [], ap, ◌∙◌, arith}
use Rattle.store.specs.FoundView.{found_view}
use Rattle.store.proofs.PendingOffers.{length-found, within_limit, counted_limit}
use Rattle.store.proofs.Bytes.{found_suit}
use Rattle.store.proofs.table.PositionTable.passes.Goals as goal
use Rattle.std.proofs.Common.{[], ap, ◌∙◌, arith}

pub count_new-requires : goal.count_new-requires
count_new-requires g c =
    let a = c.self.inside in (
      search rules,
      (
        c.self.invariant.0,
        (
          c.requires.shares,
          (
            found_suit g.row.N g.row.M a.boxes a.squares a.start a.table.entries a.pending.items c.args.self.now c.args.successors.now c.self.invariant.1
                c.self.view_is c.requires.few,
            c.enter_all.ensures.found,
          ),
        ),
      ),
    )

pub overflow_sub-left : goal.overflow_sub-left
overflow_sub-left g c =
    let a = c.self.inside in
    let n = length-found a.boxes a.squares a.start a.table.entries a.pending.items c.args.self.now c.self.invariant.2 c.self.view_is in
    omega (arith, n.0, c.len.ensures.len, c.requires.within)

pub returns-then-len-successors-clause-passed : goal.returns-then-len-successors-clause-passed
returns-then-len-successors-clause-passed g c = λ rank.
    let a = c.self.inside in
    let n = length-found a.boxes a.squares a.start a.table.entries a.pending.items c.args.self.now c.self.invariant.2 c.self.view_is in
    within_limit c.args.limit c.args.shares c.args.share rank c.len.result c.len-2.result c.args.successors.now c.args.self.now
    (omega (arith, n.1, c.len.ensures.len, c.len-2.ensures))
    (omega (arith, n.0, c.len.ensures.len, c.requires.within)) (omega (arith, c.if-len-successors.true))

pub overflow_sub-left-2 : goal.overflow_sub-left-2
overflow_sub-left-2 g c =
    let a = c.self.inside in
    let n = length-found a.boxes a.squares a.start c.enter_all.new.table.entries [] c.args.self.now c.enter_all.ensures.found
    (c.enter_all.ensures.same a.boxes a.squares ∙ c.self.view_is) in
    omega (arith, n.0, c.len-3.ensures.len, c.requires.within)

pub returns-clause-passed : goal.returns-clause-passed
returns-clause-passed g c = λ rank.
    let a = c.self.inside in let es = c.enter_all.new.table.entries in
    let view = c.enter_all.ensures.same a.boxes a.squares ∙ c.self.view_is in
    let n = length-found a.boxes a.squares a.start es [] c.args.self.now c.enter_all.ensures.found view in
    counted_limit a.boxes a.squares a.start c.args.limit c.args.shares c.args.share rank c.len-3.result c.count_new.result es c.args.successors.now
    c.args.self.now c.enter_all.ensures.found view c.len-3.ensures.len
    (omega (arith, n.0, c.len-3.ensures.len, c.requires.within)) (c.count_new.ensures rank)

pub returns-clause-same : goal.returns-clause-same
returns-clause-same g c =
    let a = c.self.inside in
    ap (found_view a.boxes a.squares a.start c.enter_all.new.table.entries) c.enter_all.ensures.empty ∙ c.enter_all.ensures.same a.boxes a.squares ∙
    c.self.view_is
