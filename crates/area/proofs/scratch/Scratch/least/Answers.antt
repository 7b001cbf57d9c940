use Rattle.std.proofs.Common.{length, sym, ap, ◌∙◌}
use Rattle.area.specs.Reach.{Reach}
use Rattle.area.proofs.lemmas.Flooding.{words_few}
use Rattle.area.proofs.lemmas.WordSets.{listed}
use Rattle.area.proofs.scratch.Scratch.least.Goals as goal

pub least_of-requires-clause-some : goal.least_of-requires-clause-some
least_of-requires-clause-some c =
    let r = c.requires in (
      r.0,
      sym (listed c.self.inside.reached c.as_words.result.now c.args.self.now.reached r.0
          (ap (λ (x : Reach). x.reached) c.self.view_is) c.as_words.ensures) ∙ r.1,
    )

pub least_of-requires-clause-small : goal.least_of-requires-clause-small
least_of-requires-clause-small c =
    words_few c.self.inside.squares (length c.as_words.result.now) (ap length c.as_words.ensures ∙
    c.self.invariant.reached_words) c.self.invariant.small

pub returns-clause-reached : goal.returns-clause-reached
returns-clause-reached c =
    listed c.self.inside.reached c.as_words.result.now c.args.self.now.reached c.least_of.result
    (ap (λ (x : Reach). x.reached) c.self.view_is) c.as_words.ensures ∙ c.least_of.ensures.reached

pub returns-clause-least : goal.returns-clause-least
returns-clause-least c = λ q h.
    c.least_of.ensures.least q
    (sym (listed c.self.inside.reached c.as_words.result.now c.args.self.now.reached q (ap (λ (x : Reach). x.reached) c.self.view_is) c.as_words.ensures) ∙
    h)
