use Rattle.std.proofs.Common.{suc, length, refl, arith}
use Rattle.std.proofs.lemmas.Option.{slice_get_read}
use Rattle.prover.proofs.Steps.{entered_all, entered_more, expanding_on, widens_none, widens_then}
use Rattle.prover.proofs.recording.enter_all.Goals as goal

pub loop-index-init : goal.loop-index-init
loop-index-init c = record {
  expanding = c.requires.expanding;
  widens = widens_none c.args.pruner.now.board c.args.pruner.now.cap c.args.from.now.pushes c.args.frontier.now
      c.requires.expanding.searched;
  entered = λ i o lt at. absurd (omega (arith, lt));
}

pub enter_one-requires-clause-opened : goal.enter_one-requires-clause-opened
enter_one-requires-clause-opened c =
    let xs = c.args.opened.now in
    let o = c.index-opened-index.result in
    c.requires.each c.loop-index.index o
    (slice_get_read xs (length xs) c.loop-index.index o refl c.loop-index-test.true c.index-opened-index.is)

pub loop-index-preserved : goal.loop-index-preserved
loop-index-preserved c =
    let board = c.args.pruner.now.board in
    let cap = c.args.pruner.now.cap in
    let from = c.args.from.now in
    let was = c.loop-index.invariant in
    let now = c.in_ok-enter_one.ensures in
    let old = c.loop-index.frontier in
    let new = c.enter_one.new.frontier in
    let xs = c.args.opened.now in
    let o = c.index-opened-index.result in
    record {
      expanding = expanding_on board cap old new from was.expanding now.widens;
      widens = widens_then board cap from.pushes c.args.frontier.now old new was.widens now.widens;
      entered = entered_more old.entries new.entries xs (suc from.pushes) c.loop-index.index o now.widens.goes_on.still
          (slice_get_read xs (length xs) c.loop-index.index o refl c.loop-index-test.true c.index-opened-index.is)
          now.found was.entered;
    }

pub returns-clause-entered : goal.returns-clause-entered
returns-clause-entered c =
    entered_all c.loop-index.frontier.entries c.args.opened.now (suc c.args.from.now.pushes) c.loop-index.index
    c.loop-index-test.false c.loop-index.invariant.entered
