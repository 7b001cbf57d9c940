-- Without the option the moves are counted.
use Rattle.std.proofs.Common.{rules, ◌≡◌, false, inl, refl}
use Rattle.judging.specs.declared.judgement.LimitKind.TheVariants.{Positions}
use Rattle.judging.specs.declared.judgement.MovesClaim.TheVariants.{Counted}
use Rattle.sokopar.proofs.Judging.{beside_given}
use Rattle.sokopar.proofs.compare.beside_fewest_pushes.Goals as goal

pub returns-then-not-settings : goal.returns-then-not-settings
returns-then-not-settings g c =
    let set = c.args.settings in
    let not_wanted : set.moves ≡ false = search rules in
    beside_given set c.args.level.now c.args.given c.given_known.result c.args.given.pushes Counted Positions c.given_known.ensures c.requires.fewest
    (inl (refl, not_wanted))
