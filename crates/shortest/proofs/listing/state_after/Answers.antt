use Rattle.std.proofs.Common.{◌∙◌, subst, sym}
use Rattle.grid.specs.Board.{Board}
use Rattle.grid.specs.States.{FitsLevel}
use Rattle.area.specs.Area.{IsNorm}
use Rattle.doom.specs.Lost.{IsLost}
use Rattle.successors.specs.Expansion.{after_push}
use Rattle.shortest.proofs.Layering.{exact, exact_fits, lost_on, never_on, none_on}
use Rattle.shortest.proofs.listing.state_after.Goals as goal

pub returns-then-never_helps-clause-after : goal.returns-then-never_helps-clause-after
returns-then-never_helps-clause-after c =
    never_on c.args.bounds.now.board c.args.left c.args.slack.now c.args.from.now.state c.args.push c.requires.slack c.requires.fits.scene c.requires.possible
    (c.never_helps.ensures c.if-never_helps.true)

pub returns-in_default-clause-after : goal.returns-in_default-clause-after
returns-in_default-clause-after c =
    let s = c.args.from.now.state in
    let p = c.args.push in
    lost_on c.args.bounds.now.board c.args.left (after_push c.args.bounds.now.board s p)
    (subst (λ (b : Board). IsLost b (after_push b s p)) c.requires.board c.in_default.ensures.lost)

pub returns-then-not-allowed-clause-after : goal.returns-then-not-allowed-clause-after
returns-then-not-allowed-clause-after c =
    let board = c.args.bounds.now.board in
    let s = c.args.from.now.state in
    let p = c.args.push in
    let n = c.in-Some.after in
    let made : IsNorm board (after_push board s p) n × FitsLevel board n =
    subst (λ (b : Board). IsNorm b (after_push b s p) n × FitsLevel b n) c.requires.board c.in-Some.ensures.made in
    none_on board c.args.left c.set_player.new.self (after_push board s p)
    (c.set_player.ensures ∙ exact board s n p made.0) (c.allow-allowed.ensures c.if-not-allowed.true)

pub returns-clause-after : goal.returns-clause-after
returns-clause-after c =
    let board = c.args.bounds.now.board in
    let s = c.args.from.now.state in
    let p = c.args.push in
    let n = c.in-Some.after in
    let made : IsNorm board (after_push board s p) n × FitsLevel board n =
    subst (λ (b : Board). IsNorm b (after_push b s p) n × FitsLevel b n) c.requires.board c.in-Some.ensures.made in (
      c.set_player.ensures ∙ exact board s n p made.0,
      subst (FitsLevel board) (sym c.set_player.ensures) (exact_fits board s n p c.requires.fits.scene c.requires.possible made.0 made.1),
    )

pub allow-allowed-requires : goal.allow-allowed-requires
allow-allowed-requires c =
    let board = c.args.bounds.now.board in
    let s = c.args.from.now.state in
    let p = c.args.push in
    let n = c.in-Some.after in
    let made : IsNorm board (after_push board s p) n × FitsLevel board n =
    subst (λ (b : Board). IsNorm b (after_push b s p) n × FitsLevel b n) c.requires.board c.in-Some.ensures.made in
    subst (FitsLevel board) (sym c.set_player.ensures) (exact_fits board s n p c.requires.fits.scene c.requires.possible made.0 made.1)
