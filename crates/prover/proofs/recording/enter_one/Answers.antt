use Rattle.std.proofs.Common.{◌≡◌, ◌+◌, ◌∙◌, ℕ, suc, subst, arith}
use Rattle.std.proofs.lemmas.Result.{on_ok_weaker}
use Rattle.store.proofs.lemmas.Fitting.{level_fits}
use Rattle.store.specs.Earlier.{IsFoundWithin}
use Rattle.prover.specs.inside.Working.{Enters, StayBelow}
use Rattle.prover.proofs.Steps.{entry_by, under_way_after}
use Rattle.prover.proofs.recording.enter_one.Goals as goal

pub open_at-requires : goal.open_at-requires
open_at-requires c =
    let searched = c.requires.expanding.searched in
    level_fits c.args.pruner.now.board c.args.frontier.now.boxes c.args.frontier.now.squares c.args.one.now.position
    searched.boxes searched.squares c.requires.opened.fits

pub returns-clause-widens : goal.returns-clause-widens
returns-clause-widens c =
    let board = c.args.pruner.now.board in
    let cap = c.args.pruner.now.cap in
    let s = c.args.from.now.position in
    let k = c.args.from.now.pushes in
    let o = c.args.one.now in
    let by = c.requires.opened in
    let old = c.args.frontier.now.entries in
    let new = c.open_at.new.self.entries in
    let place = c.args.from.now.place in
    let (x, at, same, count) = c.requires.expanding.at_place in
    let few = c.requires.expanding.searched.under_way.few place x at in
    let one : k + 1 ≡ suc k = omega arith in
    on_ok_weaker c.open_at.result (λ enters. record {
      searched = record {
        under_way = under_way_after board cap old new place k o.total s o.position o.push
            c.requires.expanding.searched.under_way c.requires.expanding.at_place by.can by.norm by.fits by.total
            (subst (λ (j : ℕ). Enters old new (entry_by place j o.total o.position o.push)) one enters);
        boxes = c.open_at.ensures.size.0 ∙ c.requires.expanding.searched.boxes;
        squares = c.open_at.ensures.size.1 ∙ c.requires.expanding.searched.squares;
      };
      below = subst (λ (j : ℕ). StayBelow j old new) one enters.below;
      goes_on = enters.goes_on (omega (arith, few, count));
    }) c.open_at.ensures.enters

pub returns-clause-found : goal.returns-clause-found
returns-clause-found c =
    let k = c.args.from.now.pushes in
    let one : k + 1 ≡ suc k = omega arith in
    on_ok_weaker c.open_at.result
    (λ enters. subst (λ (j : ℕ). IsFoundWithin c.open_at.new.self.entries j c.args.one.now.position) one enters.found)
    c.open_at.ensures.enters
