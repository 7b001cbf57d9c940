use Rattle.std.proofs.Common.{rules, ℕ, ◌<◌, length, sym, ap, subst, ◌∙◌}
use Rattle.std.proofs.lemmas.Bool.{and_parts}
use Rattle.grid.specs.Squares.{Squares}
use Rattle.grid.specs.Board.{Scene, next}
use Rattle.grid.proofs.lemmas.Steps.{inside_grid}
use Rattle.area.specs.Area.{IsNorm, at}
use Rattle.area.specs.inside.Detours.{GainsNothing, StaysJoined, IsLeastWith}
use Rattle.area.proofs.Detours.{still_reached, norm_after}
use Rattle.area.proofs.lemmas.Norms.{norm_fits}
use Rattle.area.proofs.Reached.{walk_free}
use Rattle.area.proofs.after.normalise_after.Goals as goal
use Rattle.area.proofs.after.normalise_after.Goals.{then-joined-sight, else-joined-sight}

pub next-ahead-requires : goal.next-ahead-requires
next-ahead-requires c = inside_grid c.args.level.now c.args.push.square (c.requires.fits_before.scene.boxes c.args.push.square c.requires.pushed.there)

pub look_ahead-sight-requires-clause-inside : goal.look_ahead-sight-requires-clause-inside
look_ahead-sight-requires-clause-inside c =
    inside_grid c.args.level.now c.args.push.square (c.requires.fits_before.scene.boxes c.args.push.square c.requires.pushed.there)

pub look_ahead-sight-requires-clause-behind : goal.look_ahead-sight-requires-clause-behind
look_ahead-sight-requires-clause-behind c = (c.requires.flooded _).1 c.requires.pushed.behind

pub look_ahead-sight-requires-clause-reached : goal.look_ahead-sight-requires-clause-reached
look_ahead-sight-requires-clause-reached c = λ q there.
    let walked = (c.requires.flooded q).0 there in
    inside_grid c.args.level.now q (walk_free c.args.level.now c.args.before.now walked.0 q c.requires.fits_before.scene walked.1).0

pub least_again-player-requires-clause-moved : goal.least_again-player-requires-clause-moved
least_again-player-requires-clause-moved c = record {
  inside = inside_grid c.args.level.now c.args.push.square (c.requires.fits_before.scene.boxes c.args.push.square c.requires.pushed.there);
  within = subst (λ (x : ℕ). x < length c.args.level.now.cells) (sym c.next-ahead.ensures) (inside_grid c.args.level.now _ c.requires.pushed.ahead.0);
  moved = search rules;
}

pub least_again-player-requires-clause-known : goal.least_again-player-requires-clause-known
least_again-player-requires-clause-known c = λ yes q there other.
    let joined = subst (λ (x : ℕ). StaysJoined c.args.level.now c.args.scratch.now.reached x c.args.push.square) c.next-ahead.ensures
    (c.look_ahead-sight.ensures.joined yes) in
    still_reached c.args.level.now c.args.before.now c.args.push c.args.after.now c.requires.fits_before.scene c.requires.pushed c.args.scratch.now.reached
    c.requires.flooded joined q there (λ e. other (e ∙ sym c.next-ahead.ensures))

pub returns-clause-norm : goal.returns-clause-norm
returns-clause-norm c =
    let board = c.args.level.now in
    let reached = c.args.scratch.now.reached in
    let ahead : ℕ = next board c.args.push.square c.args.push.dir in
    elim c.if-joined-sight.branch [
      | then-joined-sight w ↦
          (let both = and_parts c.look_ahead-sight.result.is_joined c.look_ahead-sight.result.is_known w.if-joined-sight.true in
          let known = subst (λ (bs : Squares). GainsNothing board bs reached ahead c.args.push.square) c.requires.boxes
          (subst (λ (x : ℕ). GainsNothing board c.args.scratch.now.boxes reached x c.args.push.square) c.next-ahead.ensures
          (c.look_ahead-sight.ensures.known both.1)) in
          let joined = subst (λ (x : ℕ). StaysJoined board reached x c.args.push.square) c.next-ahead.ensures
          (c.look_ahead-sight.ensures.joined both.0) in
          let least = subst (λ (x : ℕ). IsLeastWith reached x c.args.push.square w.least_with-player.result) c.next-ahead.ensures w.least_with-player.ensures in
          norm_after board c.args.before.now c.args.push c.args.after.now c.requires.fits_before.scene c.requires.pushed reached c.requires.flooded
          c.requires.fits.scene known joined c.set_player.new.self w.least_with-player.result (c.set_player.ensures ∙
          ap (λ (q : ℕ). at c.args.after.now q) w.player-is) least)
      | else-joined-sight w ↦
          subst (λ (n : Scene). IsNorm board c.args.after.now n) (sym (c.set_player.ensures ∙
          ap (λ (q : ℕ). at c.args.after.now q) w.player-is)) w.least_again-player.ensures.norm
    ]

pub returns-clause-fits : goal.returns-clause-fits
returns-clause-fits c = norm_fits c.requires.fits (returns-clause-norm c)
