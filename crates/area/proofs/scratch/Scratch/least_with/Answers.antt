use Rattle.std.proofs.Common.{length, ap, ◌∙◌}
use Rattle.area.proofs.lemmas.Flooding.{words_few}
use Rattle.area.proofs.scratch.Scratch.least_with.Goals as goal

pub least_but-requires : goal.least_but-requires
least_but-requires c = record {
  small = words_few c.self.inside.squares (length c.as_words.result.now) (ap length c.as_words.ensures ∙
      c.self.invariant.reached_words) c.self.invariant.small;
}
