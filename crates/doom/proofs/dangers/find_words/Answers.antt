use Rattle.std.proofs.Common.{ℕ, List, [], ◌∷◌, length, sym, ap, subst, ◌∙◌, arith, length-append}
use Rattle.area.specs.Words.{squares_of}
use Rattle.grid.specs.declared.dir.Dir.TheVariants.{D, R}
use Rattle.doom.specs.declared.dangers.Danger.{Danger}
use Rattle.doom.specs.inside.Dangers.{AreDangers, TellsDanger}
use Rattle.doom.specs.inside.Holding.{AreFast}
use Rattle.doom.proofs.Spared.{dangers_none, dangers_more}
use Rattle.doom.proofs.dangers.find_words.Goals as goal

pub loop-index-init : goal.loop-index-init
loop-index-init c = record {
  size = c.requires.empty;
  tell = λ board are columns some. dangers_none board (squares_of c.args.boxes.now) c.args.words.now.items c.requires.empty;
}

pub loop-index-preserved : goal.loop-index-preserved
loop-index-preserved c =
    let before = c.loop-index.words.items in
    let danger = c.danger_at-danger.result in
    let e = ap length c.push.ensures.items ∙ length-append before (danger ∷ []) in
    record {
      size = omega (arith, e, c.loop-index.invariant.size);
      tell = λ board are columns some. subst (λ (ws : List Danger). AreDangers board (squares_of c.args.boxes.now) ws) (sym c.push.ensures.items)
          (dangers_more board (squares_of c.args.boxes.now) before danger (c.loop-index.invariant.tell board are columns some)
          (subst (λ (k : ℕ). TellsDanger board (squares_of c.args.boxes.now) k danger) (sym c.loop-index.invariant.size)
          (c.danger_at-danger.ensures board (subst (λ (ws : List ℕ). AreFast board R ws) (sym c.as_words-across.ensures) are.across)
          (subst (λ (ws : List ℕ). AreFast board D ws) (sym c.as_words-along.ensures) are.along) columns some)));
    }
