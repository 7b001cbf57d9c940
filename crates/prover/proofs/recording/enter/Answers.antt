use Rattle.std.proofs.Common.{◌∙◌}
use Rattle.std.proofs.lemmas.Option.{slice_get_within}
use Rattle.std.proofs.lemmas.Result.{on_ok_weaker}
use Rattle.prover.specs.inside.Working.{tighter}
use Rattle.prover.proofs.Entering.{goes_expanded, turns_expanded, waits_on}
use Rattle.prover.proofs.Steps.{expands_found, under_way_expanded}
use Rattle.prover.proofs.recording.enter.Goals as goal

pub enter_all-requires-clause-expanding : goal.enter_all-requires-clause-expanding
enter_all-requires-clause-expanding c =
    let waits = c.requires.waits in
    record {
      searched = c.requires.searched;
      at_place = (waits.entry, waits.at, waits.same, waits.count);
      few = c.requires.ready.range.pushes;
    }

pub set_least-requires : goal.set_least-requires
set_least-requires c =
    let middle = c.enter_all.new.frontier.entries in
    let below = c.in_ok-enter_all.ensures.widens.below in
    let waits = waits_on c.args.frontier.now.entries middle c.args.from.now below c.requires.waits in
    record { place = slice_get_within middle c.args.from.now.place waits.entry waits.at }

pub returns-clause-searched : goal.returns-clause-searched
returns-clause-searched c =
    let board = c.args.pruner.now.board in
    let cap = c.args.pruner.now.cap in
    let from = c.args.from.now in
    let now = c.in_ok-enter_all.ensures in
    let old = c.args.frontier.now.entries in
    let middle = c.enter_all.new.frontier.entries in
    let waits = waits_on old middle from now.widens.below c.requires.waits in
    let expands = expands_found board (tighter cap c.args.next) c.args.opened.now old middle from.pushes from.position
    now.widens.goes_on.still now.entered c.requires.expansion.expands in
    on_ok_weaker c.set_least.result (λ has. record {
      under_way = under_way_expanded board cap middle c.set_least.new.self.entries from c.args.next
          now.widens.searched.under_way waits c.requires.ready.unsolved c.requires.expansion.later expands has;
      boxes = c.set_least.ensures.size.0 ∙ now.widens.searched.boxes;
      squares = c.set_least.ensures.size.1 ∙ now.widens.searched.squares;
    }) c.set_least.ensures.set

pub returns-clause-fewer_turns : goal.returns-clause-fewer_turns
returns-clause-fewer_turns c =
    let now = c.in_ok-enter_all.ensures in
    let old = c.args.frontier.now.entries in
    let middle = c.enter_all.new.frontier.entries in
    let waits = waits_on old middle c.args.from.now now.widens.below c.requires.waits in
    on_ok_weaker c.set_least.result (turns_expanded c.args.pruner.now.cap old middle c.set_least.new.self.entries
    c.args.from.now c.args.next c.requires.ready.range.reach now.widens.goes_on waits c.requires.expansion.later)
    c.set_least.ensures.set

pub returns-clause-goes_on : goal.returns-clause-goes_on
returns-clause-goes_on c =
    let now = c.in_ok-enter_all.ensures in
    let old = c.args.frontier.now.entries in
    let middle = c.enter_all.new.frontier.entries in
    let waits = waits_on old middle c.args.from.now now.widens.below c.requires.waits in
    on_ok_weaker c.set_least.result (goes_expanded c.args.pruner.now.cap old middle c.set_least.new.self.entries
    c.args.from.now c.args.next c.requires.ready.range.reach now.widens.goes_on waits c.requires.expansion.later)
    c.set_least.ensures.set
